use Rattle.std.proofs.Common.{◌≡◌, ◌<◌, ◌+◌, ◌-◌, length, drop, slice_index, sym, ap, ◌∙◌, arith}
use Rattle.std.proofs.lemmas.Bool.{eqb-true}
use Rattle.std.proofs.lemmas.List.{get_or-drop, length-drop, take_rest}
use Rattle.csv_rows.specs.Places.{after_quote}
use Rattle.csv_rows.specs.declared.place.Place.TheVariants as place
use Rattle.csv_rows.proofs.Scans.{one-quote, past-all, past-byte, place-none}
use Rattle.csv_rows.proofs.scan.scan.Goals as goal

pub quotes-init : goal.quotes-init
quotes-init c = record { within = omega arith; quoted = sym (place-none place.Quoted); opens = sym (place-none place.Opens) }

pub quotes-preserved : goal.quotes-preserved
quotes-preserved c =
    let xs = c.args.bytes.now in
    let at = c.quotes.at in
    let k = c.in-Some.count in
    let front : (at + k) - at ≡ k = omega arith in
    let found = rw (take_rest xs at) at c.in-Some.ensures in
    let low : k < length (drop at xs) = found.0.high in
    let size = length-drop at xs in
    let there : at + k < length xs = omega arith in
    let is : slice_index xs (at + k) ≡ 34 = sym (get_or-drop at xs k 0) ∙ eqb-true (slice_index (drop at xs) k) 34 found.1 in
    let quoted = rw (front, c.quotes.invariant.quoted) at c.past_others.ensures in
    let opens = rw (front, c.quotes.invariant.opens) at c.past_others-in-Some.ensures in
    record {
      within = omega arith;
      quoted = c.past_quote-quoted.ensures ∙ ap after_quote quoted ∙ sym (past-byte place.Quoted xs at k 34 there is ∙ one-quote _);
      opens = c.past_quote-opens.ensures ∙ ap after_quote opens ∙ sym (past-byte place.Opens xs at k 34 there is ∙ one-quote _);
    }

pub returns : goal.returns
returns c =
    let xs = c.args.bytes.now in
    let at = c.quotes.at in
    record {
      quoted = rw (take_rest xs at, c.quotes.invariant.quoted) at c.past_others-2.ensures ∙ past-all place.Quoted xs at;
      opens = rw (take_rest xs at, c.quotes.invariant.opens) at c.past_others-3.ensures ∙ past-all place.Opens xs at;
    }
