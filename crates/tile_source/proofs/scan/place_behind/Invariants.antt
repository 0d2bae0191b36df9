use Rattle.std.proofs.Common.{◌≤◌, ◌-◌, length}
use Rattle.tile_source.specs.Quotes.{HasScanned, NoQuoteIn}
use Rattle.tile_source.proofs.scan.place_behind.Given as goal

abbrev pub invariant-steps : goal.invariant-steps
invariant-steps l = record {
  scanned : HasScanned l.start l.text l.cursor.from l.cursor.place;
  clear : NoQuoteIn l.text l.cursor.from l.at;
  low : l.cursor.from ≤ l.at;
}

abbrev pub decreases-steps : goal.decreases-steps
decreases-steps l = length l.text - l.at
