use Rattle.std.proofs.Common.{◌≡◌, ◌≤◌, ◌-◌, IfSome, length, take}
use Rattle.csv_rows.specs.Places.{place_after}
use Rattle.csv_rows.specs.declared.place.Place.TheVariants as place
use Rattle.row_windows.specs.Ends.{IsLastBelow, IsOpenEnd}
use Rattle.row_windows.proofs.cut.last_from.Given as goal

abbrev pub invariant-quotes : goal.invariant-quotes
invariant-quotes l = record { within : l.at ≤ length l.text; here : l.place ≡ place_after place.Opens (take l.at l.text); some : IfSome l.last (IsOpenEnd l.text); last : l.from ≡ 0 → IsLastBelow l.text l.at l.last }

abbrev pub decreases-quotes : goal.decreases-quotes
decreases-quotes l = length l.text - l.at
