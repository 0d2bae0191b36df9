use Rattle.std.proofs.Common.{sym}
use Rattle.csv_rows.specs.declared.place.Place.TheVariants as place
use Rattle.csv_rows.proofs.Scans.{place-none}
use Rattle.row_windows.proofs.cut.last_end.Goals as goal

pub last_from-requires-in-None-clause-here : goal.last_from-requires-in-None-clause-here
last_from-requires-in-None-clause-here c = sym (place-none place.Opens)
