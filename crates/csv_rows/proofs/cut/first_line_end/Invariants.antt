use Rattle.std.proofs.Common.{◌≡◌, ◌≤◌, ◌-◌, length, take}
use Rattle.csv_rows.specs.Places.{place_after}
use Rattle.csv_rows.proofs.cut.first_line_end.Given as goal

abbrev pub invariant-lines : goal.invariant-lines
invariant-lines l = record { within : l.at ≤ length l.bytes; here : l.place ≡ place_after l.fn.start (take l.at l.bytes) }

abbrev pub decreases-lines : goal.decreases-lines
decreases-lines l = length l.bytes - l.at
