use Rattle.std.proofs.Common.{◌≡◌, ◌<◌, ◌+◌, ◌-◌, ◌∙◌, ◌++◌, ◌∷◌, [], length, drop, take, slice_index, arith, rules}
use Rattle.std.proofs.lemmas.Bool.{eq-eqb, eqb-true}
use Rattle.std.proofs.lemmas.List.{length-drop, take_rest}
use Rattle.csv_rows.specs.Plain.{NoReturn}
use Rattle.csv_rows.proofs.LineEnds.{copied-alone, copied-feed, no-return-append, no-return-feed, no-return-take}
use Rattle.csv_rows.proofs.lines.with_line_feeds.Goals as goal

pub returns-preserved-in-Some : goal.returns-preserved-in-Some
returns-preserved-in-Some c =
    let xs = c.args.text.now in
    let at = c.returns.at in
    let k = c.in-Some.count in
    let out = c.returns.bytes.items in
    let front : (at + k) - at ≡ k = omega arith in
    let found = rw (take_rest xs at) at c.in-Some.ensures in
    let low : k < length (drop at xs) = found.0.high in
    let size = length-drop at xs in
    let is : slice_index (drop at xs) k ≡ 13 = eqb-true (slice_index (drop at xs) k) 13 found.1 in
    let clean : NoReturn (take k (drop at xs)) = no-return-take k (drop at xs) (λ j lt is. found.0.before j (omega arith) lt (eq-eqb (slice_index (drop at xs) j) 13 is)) in
    let line = rw front at c.in_ok-extend_from_slice.ensures.items in
    let feed : c.extend_from_slice-then-at-text.new.self.items ≡ (out ++ take k (drop at xs)) ++ (10 ∷ []) = rw line at c.in_ok-extend_from_slice-2.ensures.items in
    rw feed (record {
      within = omega (arith, low, size);
      lines = no-return-append (out ++ take k (drop at xs)) (10 ∷ []) (no-return-append out (take k (drop at xs)) c.returns.invariant.lines clean) no-return-feed;
      same = copied-alone out xs at k low is ∙ c.returns.invariant.same;
    })

pub returns-preserved : goal.returns-preserved
returns-preserved c =
    let xs = c.args.text.now in
    let at = c.returns.at in
    let k = c.in-Some.count in
    let out = c.returns.bytes.items in
    let front : (at + k) - at ≡ k = omega arith in
    let found = rw (take_rest xs at) at c.in-Some.ensures in
    let low : k < length (drop at xs) = found.0.high in
    let size = length-drop at xs in
    let is : slice_index (drop at xs) k ≡ 13 = eqb-true (slice_index (drop at xs) k) 13 found.1 in
    let clean : NoReturn (take k (drop at xs)) = no-return-take k (drop at xs) (λ j lt is. found.0.before j (omega arith) lt (eq-eqb (slice_index (drop at xs) j) 13 is)) in
    let line = rw front at c.in_ok-extend_from_slice.ensures.items in
    let more : at + (k + 1) < length xs = search rules in
    let feed : slice_index xs (at + (k + 1)) ≡ 10 = search rules in
    rw line (record {
      within = omega (arith, more);
      lines = no-return-append out (take k (drop at xs)) c.returns.invariant.lines clean;
      same = copied-feed out xs at k low is more feed ∙ c.returns.invariant.same;
    })
