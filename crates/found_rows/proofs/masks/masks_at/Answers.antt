use Rattle.std.proofs.Common.{◌+◌, slice_index}
use Rattle.csv_rows.proofs.Bits.{either-bit, same-bit}
use Rattle.found_rows.proofs.Bits.{quote-bit}
use Rattle.found_rows.proofs.masks.masks_at.Goals as goal

pub returns-clause-ends : goal.returns-clause-ends
returns-clause-ends c k =
    let bytes = c.bytes_at-bytes.result in
    let byte = slice_index c.args.text.now (c.args.at + k) in
    let here = c.bytes_at-bytes.ensures.each k in
    either-bit c.places_of.result c.places_of-2.result k byte
    (same-bit c.places_of.result k (slice_index bytes k) byte 44 here (c.places_of.ensures k))
    (same-bit c.places_of-2.result k (slice_index bytes k) byte 10 here (c.places_of-2.ensures k))

pub returns-clause-quotes : goal.returns-clause-quotes
returns-clause-quotes c k =
    let bytes = c.bytes_at-bytes.result in
    let byte = slice_index c.args.text.now (c.args.at + k) in
    quote-bit c.places_of-3.result k byte (same-bit c.places_of-3.result k (slice_index bytes k) byte 34 (c.bytes_at-bytes.ensures.each k) (c.places_of-3.ensures k))
