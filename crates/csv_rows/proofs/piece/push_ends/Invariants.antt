use Rattle.std.proofs.Common.{◌≡◌, ◌++◌, ◌+◌, take}
use Rattle.csv.specs.Records.{cut_from, fields_of}
use Rattle.csv_rows.specs.Store.{Covers}
use Rattle.csv_rows.proofs.Stands.{placed}
use Rattle.csv_rows.proofs.piece.push_ends.Given as goal

abbrev pub invariant-fields : goal.invariant-fields
invariant-fields l = record {
  covers : Covers l.ends.items l.end;
  place : l.end ≡ l.fn.from + placed l.row.ends l.row.bytes l.i;
  fields : cut_from 0 l.ends.items l.bytes ≡ cut_from 0 l.fn.ends.items l.bytes ++ take l.i (fields_of l.row);
}
