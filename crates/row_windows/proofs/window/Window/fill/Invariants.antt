use Rattle.std.proofs.Common.{◌≡◌, ◌<◌, ◌≤◌, ◌+◌, ◌-◌, []}
use Rattle.row_windows.specs.Stretch.{Fills}
use Rattle.row_windows.proofs.window.Window.fill.Given as goal

abbrev pub invariant-longer : goal.invariant-longer
invariant-longer g l = record {
  some : 0 < l.goal;
  reading : l.self.reading ≡ l.fn.self.reading;
  header : l.self.header ≡ l.fn.self.header;
  lines : l.self.lines ≡ [];
  reads : Fills (g.S.Source.left l.fn.source) (g.S.Source.left l.source) l.fn.self.rest l.self.rest;
  faults : g.S.Source.faults l.fn.source ≤ g.S.Source.faults l.source;
}

abbrev pub decreases-longer : goal.decreases-longer
decreases-longer g l = 67108864 + 1 - l.goal
