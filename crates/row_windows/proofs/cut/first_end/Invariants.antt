use Rattle.std.proofs.Common.{◌≡◌, take}
use Rattle.csv_rows.specs.Places.{place_after}
use Rattle.csv_rows.specs.declared.place.Place.TheVariants as place
use Rattle.row_windows.proofs.cut.first_end.Given as goal

abbrev pub invariant-bytes : goal.invariant-bytes
invariant-bytes l = l.place ≡ place_after place.Opens (take l.at l.text)
