use Rattle.std.proofs.Common.{◌≡◌, ◌≤◌, length}
use Rattle.csv_rows.specs.Readings.{is_among}
use Rattle.csv_rows.proofs.cleaning.is_among.Given as goal

abbrev pub invariant-texts : goal.invariant-texts
invariant-texts l = record {
  same : is_among l.field l.rest ≡ is_among l.field l.fn.texts;
  within : length l.rest ≤ length l.fn.texts;
}

abbrev pub decreases-texts : goal.decreases-texts
decreases-texts l = length l.rest
