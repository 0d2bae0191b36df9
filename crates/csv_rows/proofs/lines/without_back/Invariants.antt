use Rattle.std.proofs.Common.{◌≡◌, ◌≤◌, length, take}
use Rattle.csv_rows.specs.Plain.{plain_records}
use Rattle.csv_rows.proofs.lines.without_back.Given as goal

abbrev pub invariant-ends : goal.invariant-ends
invariant-ends l = record { within : l.at ≤ length l.text; same : plain_records (take l.at l.text) ≡ plain_records l.text }

abbrev pub decreases-ends : goal.decreases-ends
decreases-ends l = l.at
