use Rattle.std.proofs.Common.{◌∙◌, sym}
use Rattle.csv_rows.specs.declared.place.Place.TheVariants as place
use Rattle.csv_rows.proofs.Scans.{place-none}
use Rattle.row_windows.proofs.QuoteScans.{one-more}
use Rattle.row_windows.proofs.cut.first_end.Goals as goal

pub bytes-init : goal.bytes-init
bytes-init c = sym (place-none place.Opens)

pub bytes-preserved : goal.bytes-preserved
bytes-preserved c = (rw c.bytes.invariant at c.scanned-place.ensures) ∙ one-more place.Opens c.args.text.now c.bytes.at
