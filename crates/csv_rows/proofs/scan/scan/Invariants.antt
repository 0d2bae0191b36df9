use Rattle.std.proofs.Common.{◌≡◌, ◌≤◌, ◌-◌, length, take}
use Rattle.csv_rows.specs.Places.{place_after}
use Rattle.csv_rows.specs.declared.place.Place.TheVariants as place
use Rattle.csv_rows.proofs.scan.scan.Given as goal

abbrev pub invariant-quotes : goal.invariant-quotes
invariant-quotes l = record { within : l.at ≤ length l.bytes; quoted : l.quoted ≡ place_after place.Quoted (take l.at l.bytes); opens : l.opens ≡ place_after place.Opens (take l.at l.bytes) }

abbrev pub decreases-quotes : goal.decreases-quotes
decreases-quotes l = length l.bytes - l.at
