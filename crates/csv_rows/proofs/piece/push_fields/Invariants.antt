use Rattle.std.proofs.Common.{◌≡◌, ◌++◌, take, length}
use Rattle.csv.specs.Records.{cut_from, fields_of}
use Rattle.csv_rows.specs.Store.{Covers}
use Rattle.csv_rows.proofs.piece.push_fields.Given as goal

abbrev pub invariant-fields : goal.invariant-fields
invariant-fields l = Covers l.ends.items (length l.bytes.items)
    × (cut_from 0 l.ends.items l.bytes.items ≡ cut_from 0 l.fn.ends.items l.fn.bytes.items ++ take l.i (fields_of l.row))
