use Rattle.std.proofs.Common.{◌≡◌, ◌<◌, ◌+◌, ◌-◌, false, length, take, drop, slice_index, sym, ap, refl, ◌∙◌, arith}
use Rattle.std.specs.Prelude.{not}
use Rattle.std.proofs.lemmas.Bool.{eq-eqb, eqb-true}
use Rattle.std.proofs.lemmas.List.{get_or-drop, length-drop, take_rest}
use Rattle.std.proofs.Math.Seq.{take-add}
use denote.Enum.Bare.{sameb}
use Rattle.csv_rows.specs.Places.{place_after}
use Rattle.csv_rows.specs.contracts.place.Place.{the_type}
use Rattle.csv_rows.specs.declared.place.Place.{Place}
use Rattle.csv_rows.specs.declared.place.Place.TheVariants as place
use Rattle.csv_rows.proofs.Scans.{moved, no-quote-between, place-append, place-none, still-quoted}
use Rattle.csv_rows.proofs.cut.first_line_end.Goals as goal

same-quoted : (p : Place) → not (sameb the_type p place.Quoted) ≡ false → p ≡ place.Quoted
same-quoted place.Quoted h = refl
same-quoted place.Opens h = cc
same-quoted place.Inside h = cc

pub lines-init : goal.lines-init
lines-init c = record { within = omega arith; here = sym (place-none c.args.start) }

pub returns-then-ne-clause-cut : goal.returns-then-ne-clause-cut
returns-then-ne-clause-cut c =
    let xs = c.args.bytes.now in
    let at = c.lines.at in
    let k = c.in-Some.count in
    let front : (at + k) - at ≡ k = omega arith in
    let line = rw (front, c.lines.invariant.here) at c.scanned-place.ensures in
    let all = ap (place_after c.args.start) (take-add at k xs) ∙ place-append c.args.start (take at xs) (take k (drop at xs)) in
    λ e.
    let quoted : c.scanned-place.result ≡ place.Quoted = line ∙ (sym all ∙ e) in
    let ne = rw quoted at c.ne.ensures in
    let is = c.if-ne.true in
    cc

pub lines-smaller : goal.lines-smaller
lines-smaller c =
    let xs = c.args.bytes.now in
    let at = c.lines.at in
    let k = c.in-Some.count in
    let more = c.in-Some-memchr.more in
    let found = rw (take_rest xs at) at c.in-Some.ensures in
    let low : k < length (drop at xs) = found.0.high in
    let size = length-drop at xs in
    let line : slice_index xs (at + k) ≡ 10 = sym (get_or-drop at xs k 0) ∙ eqb-true (slice_index (drop at xs) k) 10 found.1 in
    let next = rw (take_rest xs (at + k)) at c.in-Some-memchr.ensures in
    let high : more < length (drop (at + k) xs) = next.0.high in
    let rest = length-drop (at + k) xs in
    let quote : slice_index xs (at + k + more) ≡ 34 = sym (get_or-drop (at + k) xs more 0) ∙ eqb-true (slice_index (drop (at + k) xs) more) 34 next.1 in
    let up : 0 < more = moved xs (at + k) more line quote in
    omega (arith, up, high, rest, low, size)

pub lines-preserved : goal.lines-preserved
lines-preserved c =
    let xs = c.args.bytes.now in
    let at = c.lines.at in
    let k = c.in-Some.count in
    let more = c.in-Some-memchr.more in
    let front : (at + k) - at ≡ k = omega arith in
    let quoted = same-quoted c.scanned-place.result (sym c.ne.ensures ∙ c.if-ne.false) in
    let line = rw (front, c.lines.invariant.here) at c.scanned-place.ensures in
    let all = ap (place_after c.args.start) (take-add at k xs) ∙ place-append c.args.start (take at xs) (take k (drop at xs)) in
    let here : place_after c.args.start (take (at + k) xs) ≡ place.Quoted = all ∙ (sym line ∙ quoted) in
    let next = rw (take_rest xs (at + k)) at c.in-Some-memchr.ensures in
    let high : more < length (drop (at + k) xs) = next.0.high in
    let rest = length-drop (at + k) xs in
    let clear = no-quote-between xs (at + k) more (λ j lt is. next.0.before j (omega arith) lt (eq-eqb (slice_index (drop (at + k) xs) j) 34 (get_or-drop (at + k) xs j 0 ∙ is))) in
    record { within = omega arith; here = quoted ∙ sym (still-quoted c.args.start xs (at + k) more here clear) }
