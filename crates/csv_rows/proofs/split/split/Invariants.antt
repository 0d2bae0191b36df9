use Rattle.std.proofs.Common.{◌≤◌, ◌*◌}
use Rattle.csv_rows.specs.Splits.{IsAt, NoSeparator}
use Rattle.csv_rows.proofs.split.split.Given as goal

abbrev pub invariant-blocks-2 : goal.invariant-blocks-2
invariant-blocks-2 l = record {
  scan : IsAt l.text l.ends.items l.row_ends l.cursor.from l.cursor.first;
  low : l.cursor.from ≤ l.block * 64;
  before : NoSeparator l.text l.cursor.from (l.block * 64);
}
