use Rattle.std.proofs.Common.{◌≡◌, ◌≤◌, ◌-◌, length}
use Rattle.found_rows.specs.Found.{records_from}
use Rattle.found_rows.proofs.found.past_lines.Given as goal

abbrev pub invariant-lines : goal.invariant-lines
invariant-lines l = record {
  low : l.from ≤ l.at;
  high : l.at ≤ length l.text;
  records : records_from l.text l.at ≡ records_from l.text l.from;
}

abbrev pub decreases-lines : goal.decreases-lines
decreases-lines l = length l.text - l.at
