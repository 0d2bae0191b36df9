use Rattle.row_windows.specs.Quotes.{IsScanned}
use Rattle.row_windows.proofs.Marks.{AreLeft}
use Rattle.row_windows.proofs.quotes.past_block.Given as goal

abbrev pub invariant-marks : goal.invariant-marks
invariant-marks l = record { scan : IsScanned l.text l.scan; left : AreLeft l.text l.base l.scan.at l.mask }

abbrev pub decreases-marks : goal.decreases-marks
decreases-marks l = l.mask
