use Rattle.std.proofs.Common.{◌≡◌, ◌≤◌, ◌-◌, length, take}
use Rattle.csv_rows.specs.Places.{place_after}
use Rattle.csv_rows.proofs.place.scanned.Given as goal

abbrev pub invariant-quotes : goal.invariant-quotes
invariant-quotes l = record { within : l.at ≤ length l.bytes; here : l.place ≡ place_after l.fn.start (take l.at l.bytes) }

abbrev pub decreases-quotes : goal.decreases-quotes
decreases-quotes l = length l.bytes - l.at
