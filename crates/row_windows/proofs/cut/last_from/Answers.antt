use Rattle.std.proofs.Common.{◌≡◌, ◌<◌, ◌+◌, ◌-◌, ◌∙◌, None, length, drop, slice_index, sym, ap, subst, arith}
use Rattle.std.proofs.lemmas.Bool.{eqb-true}
use Rattle.std.proofs.lemmas.List.{get_or-drop, length-drop, take_rest}
use Rattle.csv_rows.specs.Places.{after_quote}
use Rattle.csv_rows.specs.declared.place.Place.TheVariants as place
use Rattle.csv_rows.proofs.Scans.{one-quote, past-byte}
use Rattle.row_windows.specs.Ends.{IsLastBelow}
use Rattle.row_windows.proofs.Later.{none-yet, past-quote}
use Rattle.row_windows.proofs.cut.last_from.Goals as goal

pub quotes-init : goal.quotes-init
quotes-init c = record { within = c.requires.within; here = c.requires.here; some = tt; last = λ is. subst (λ n. IsLastBelow c.args.text.now n None) (sym is) (none-yet c.args.text.now) }

pub quotes-preserved : goal.quotes-preserved
quotes-preserved c =
    let xs = c.args.text.now in
    let at = c.quotes.at in
    let k = c.in-Some.count in
    let front : (at + k) - at ≡ k = omega arith in
    let next : at + (k + 1) ≡ (at + k) + 1 = omega arith in
    let found = rw (take_rest xs at) at c.in-Some.ensures in
    let low : k < length (drop at xs) = found.0.high in
    let size = length-drop at xs in
    let there : at + k < length xs = omega arith in
    let is : slice_index xs (at + k) ≡ 34 = sym (get_or-drop at xs k 0) ∙ eqb-true (slice_index (drop at xs) k) 34 found.1 in
    let byte = past-byte place.Opens xs at k 34 there is ∙ one-quote _ in
    let line = rw (front, c.quotes.invariant.here) at c.past_others.ensures in
    record {
      within = omega arith;
      here = c.past_quote-place.ensures ∙ ap after_quote line ∙ sym byte;
      some = c.later_end-last.ensures.some;
      last = λ first. rw next (past-quote xs (at + k) c.later_end-last.result is (c.later_end-last.ensures.last (c.quotes.invariant.last first)));
    }
