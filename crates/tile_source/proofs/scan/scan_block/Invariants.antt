use Rattle.tile_source.specs.Quotes.{HasScanned, Marked}
use Rattle.tile_source.proofs.scan.scan_block.Given as goal

abbrev pub invariant-marks : goal.invariant-marks
invariant-marks l = record {
  scanned : HasScanned l.start l.text l.cursor.from l.cursor.place;
  marked : Marked l.text l.at l.cursor.from l.mask;
}

abbrev pub decreases-marks : goal.decreases-marks
decreases-marks l = l.mask
