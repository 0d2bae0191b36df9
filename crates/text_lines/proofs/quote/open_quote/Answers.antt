use Rattle.std.proofs.Common.{◌≡◌, ◌≢◌, ◌<◌, ◌+◌, ◌-◌, ◌∙◌, length, drop, slice_index, take, sym, ap, subst, arith}
use Rattle.std.proofs.lemmas.Bool.{eq-eqb, eqb-true}
use Rattle.std.proofs.lemmas.List.{get_or-drop, length-drop, take_rest}
use Rattle.csv_rows.specs.Places.{after_quote, place_after}
use Rattle.csv_rows.specs.declared.place.Place.TheVariants as place
use Rattle.csv_rows.proofs.Scans.{one-quote, past-all, past-byte, place-append, place-none}
use Rattle.std.proofs.Math.Seq.{take-add}
use Rattle.row_windows.proofs.Later.{not-not-quoted}
use Rattle.text_lines.specs.Quotes.{IsLastOpening, NoOpening}
use Rattle.text_lines.proofs.Openings.{clear_bytes, may_none, may_some, none_yet, not_quoted_place, opening_later}
use Rattle.text_lines.proofs.quote.open_quote.Goals as goal

pub quotes-init : goal.quotes-init
quotes-init c = record { within = omega arith; here = sym (place-none place.Opens); last = none_yet c.args.text.now }

pub later_opening-last-requires-clause-within : goal.later_opening-last-requires-clause-within
later_opening-last-requires-clause-within c =
    let xs = c.args.text.now in
    let at = c.quotes.at in
    let found = rw (take_rest xs at) at c.in-Some.ensures in
    let low : c.in-Some.count < length (drop at xs) = found.0.high in
    let size = length-drop at xs in
    omega arith

pub later_opening-last-requires-clause-quote : goal.later_opening-last-requires-clause-quote
later_opening-last-requires-clause-quote c =
    let xs = c.args.text.now in
    let at = c.quotes.at in
    let k = c.in-Some.count in
    let found = rw (take_rest xs at) at c.in-Some.ensures in
    sym (get_or-drop at xs k 0) ∙ eqb-true (slice_index (drop at xs) k) 34 found.1

pub later_opening-last-requires-clause-here : goal.later_opening-last-requires-clause-here
later_opening-last-requires-clause-here c =
    let xs = c.args.text.now in
    let at = c.quotes.at in
    let k = c.in-Some.count in
    let front : (at + k) - at ≡ k = omega arith in
    let line = rw (front, c.quotes.invariant.here) at c.past_others-place.ensures in
    line ∙ sym (ap (place_after place.Opens) (take-add at k xs) ∙ place-append place.Opens (take at xs) (take k (drop at xs)))

pub later_opening-last-requires-clause-last : goal.later_opening-last-requires-clause-last
later_opening-last-requires-clause-last c =
    let xs = c.args.text.now in
    let at = c.quotes.at in
    let k = c.in-Some.count in
    let found = rw (take_rest xs at) at c.in-Some.ensures in
    let low : k < length (drop at xs) = found.0.high in
    let clear : NoOpening xs at (at + k) = clear_bytes xs at k (λ j lt is. found.0.before j (omega arith) lt (eq-eqb (slice_index (drop at xs) j) 34 is)) in
    opening_later xs at (at + k) c.quotes.last (omega arith) clear c.quotes.invariant.last

pub quotes-preserved : goal.quotes-preserved
quotes-preserved c =
    let xs = c.args.text.now in
    let at = c.quotes.at in
    let k = c.in-Some.count in
    let front : (at + k) - at ≡ k = omega arith in
    let next : at + (k + 1) ≡ (at + k) + 1 = omega arith in
    let found = rw (take_rest xs at) at c.in-Some.ensures in
    let low : k < length (drop at xs) = found.0.high in
    let size = length-drop at xs in
    let there : at + k < length xs = omega arith in
    let is : slice_index xs (at + k) ≡ 34 = sym (get_or-drop at xs k 0) ∙ eqb-true (slice_index (drop at xs) k) 34 found.1 in
    let byte = past-byte place.Opens xs at k 34 there is ∙ one-quote _ in
    let line = rw (front, c.quotes.invariant.here) at c.past_others-place.ensures in
    record {
      within = omega arith;
      here = c.past_quote-place.ensures ∙ ap after_quote line ∙ sym byte;
      last = rw next c.later_opening-last.ensures;
    }

-- the place after the whole text, and the last opening in it
pub returns-then-ne-clause-none : goal.returns-then-ne-clause-none
returns-then-ne-clause-none c =
    let xs = c.args.text.now in
    let at = c.quotes.at in
    let rest = rw (take_rest xs at, c.quotes.invariant.here) at c.past_others-end.ensures in
    let outer : c.past_others-end.result ≢ place.Quoted = not_quoted_place c.past_others-end.result (sym c.ne.ensures ∙ c.if-ne.true) in
    λ _ quoted. outer (rest ∙ past-all place.Opens xs at ∙ quoted)

pub returns-clause-some : goal.returns-clause-some
returns-clause-some c =
    let xs = c.args.text.now in
    let at = c.quotes.at in
    let rest = rw (take_rest xs at, c.quotes.invariant.here) at c.past_others-end.ensures in
    let is : c.past_others-end.result ≡ place.Quoted = not-not-quoted c.past_others-end.result (sym c.ne.ensures ∙ c.if-ne.false) in
    let none = rw (take_rest xs at) at c.in_default.ensures in
    let clear : NoOpening xs at (at + length (drop at xs)) = clear_bytes xs at (length (drop at xs)) (λ j lt is. none j (omega arith) lt (eq-eqb (slice_index (drop at xs) j) 34 is)) in
    let all : at + length (drop at xs) ≡ length xs = omega (arith, length-drop at xs, c.quotes.invariant.within) in
    let last : IsLastOpening xs (length xs) c.quotes.last = opening_later xs at (length xs) c.quotes.last c.quotes.invariant.within (subst (NoOpening xs at) all clear) c.quotes.invariant.last in
    may_some xs c.quotes.last last (sym (rest ∙ past-all place.Opens xs at) ∙ is)

pub returns-clause-none : goal.returns-clause-none
returns-clause-none c =
    let xs = c.args.text.now in
    let at = c.quotes.at in
    let none = rw (take_rest xs at) at c.in_default.ensures in
    let clear : NoOpening xs at (at + length (drop at xs)) = clear_bytes xs at (length (drop at xs)) (λ j lt is. none j (omega arith) lt (eq-eqb (slice_index (drop at xs) j) 34 is)) in
    let all : at + length (drop at xs) ≡ length xs = omega (arith, length-drop at xs, c.quotes.invariant.within) in
    let last : IsLastOpening xs (length xs) c.quotes.last = opening_later xs at (length xs) c.quotes.last c.quotes.invariant.within (subst (NoOpening xs at) all clear) c.quotes.invariant.last in
    may_none xs c.quotes.last last
