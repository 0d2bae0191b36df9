use Rattle.std.proofs.Common.{◌+◌, slice_index}
use Rattle.csv_rows.proofs.Bits.{same-bit}
use Rattle.row_windows.proofs.quotes.quotes_at.Goals as goal

pub returns : goal.returns
returns c k = same-bit c.places_of.result k (slice_index c.load.result k) (slice_index c.args.text.now (c.args.at + k)) 34 (c.load.ensures.each k) (c.places_of.ensures k)
