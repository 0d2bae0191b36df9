use Rattle.std.proofs.Common.{◌≡◌, ◌<◌, ◌+◌, ◌-◌, ◌∙◌, length, slice_index, sym, ap, arith}
use Rattle.csv_rows.specs.Places.{after_quote}
use Rattle.csv_rows.specs.declared.place.Place.TheVariants as place
use Rattle.csv_rows.proofs.Scans.{one-quote, past-byte}
use Rattle.row_windows.proofs.quotes.past_next.Goals as goal

pub returns-clause-scan : goal.returns-clause-scan
returns-clause-scan c =
    let xs = c.args.text.now in
    let at = c.args.scan.at in
    let k = c.args.quote - at in
    let here : at + k ≡ c.args.quote = omega (arith, c.requires.low) in
    let next : at + (k + 1) ≡ c.args.quote + 1 = omega (arith, here) in
    let there : at + k < length xs = omega (arith, here, c.requires.high) in
    let is : slice_index xs (at + k) ≡ 34 = ap (slice_index xs) here ∙ c.requires.quote in
    let byte = rw next at (past-byte place.Opens xs at k 34 there is ∙ one-quote _) in
    let line = rw c.requires.scan.here at c.past_others.ensures in
    record { within = omega (arith, c.requires.high); here = c.past_quote.ensures ∙ ap after_quote line ∙ sym byte }
