use Rattle.std.proofs.Common.{◌≡◌, false, take, true}
use Rattle.csv_rows.specs.Places.{place_after}
use Rattle.csv_rows.specs.declared.place.Place.TheVariants as place
use Rattle.row_windows.specs.Ends.{AllEnd, IsBegun, NoneBehind}
use Rattle.row_windows.proofs.header.first_end.Given as goal

abbrev pub invariant-bytes : goal.invariant-bytes
invariant-bytes l = record {
  here : l.place ≡ place_after place.Opens (take l.at l.text);
  behind : l.begun ≡ true → IsBegun l.text l.at;
  before : l.begun ≡ false → AllEnd l.text l.at;
  none : NoneBehind l.text l.at;
}
