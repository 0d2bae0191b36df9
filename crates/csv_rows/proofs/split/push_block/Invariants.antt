use Rattle.csv_rows.specs.Splits.{IsAt, Marked}
use Rattle.csv_rows.proofs.split.push_block.Given as goal

abbrev pub invariant-marks : goal.invariant-marks
invariant-marks l = record {
  scan : IsAt l.text l.ends.items l.row_ends l.cursor.from l.cursor.first;
  marked : Marked l.text l.at l.cursor.from l.mask;
}

abbrev pub decreases-marks : goal.decreases-marks
decreases-marks l = l.mask
