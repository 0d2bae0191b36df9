use Rattle.std.proofs.Common.{◌≡◌, ◌≤◌, ◌-◌, drop, length}
use Rattle.csv_rows.specs.Plain.{plain_records}
use Rattle.csv_rows.proofs.lines.without_front.Given as goal

abbrev pub invariant-ends : goal.invariant-ends
invariant-ends l = record { within : l.at ≤ length l.text; same : plain_records (drop l.at l.text) ≡ plain_records l.text }

abbrev pub decreases-ends : goal.decreases-ends
decreases-ends l = length l.text - l.at
