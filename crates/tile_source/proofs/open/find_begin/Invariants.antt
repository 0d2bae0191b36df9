use Rattle.std.proofs.Common.{◌≡◌, ◌<◌, ◌≤◌, ◌^◌, false}
use Rattle.tile_source.proofs.Passes.{HasPassed}
use Rattle.tile_source.proofs.open.find_begin.Given as goal

abbrev pub invariant-reads : goal.invariant-reads
invariant-reads g l = record {
  on : l.begin.is_done ≡ false;
  passed : HasPassed l.ahead (g.S.Source.left l.fn.source) (g.S.Source.left l.source) l.fn.begin.at l.begin.at;
  size : l.begin.size ≡ l.fn.begin.size;
  big : l.fn.begin.size < 2 ^ 64;
  faults : g.S.Source.faults l.fn.source ≤ g.S.Source.faults l.source;
}
