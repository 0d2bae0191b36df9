use Rattle.std.proofs.Common.{◌≡◌, ◌≤◌, ◌++◌, [], false, length}
use Rattle.row_windows.specs.Stretch.{Fills}
use Rattle.stream_groups.specs.Begins.{lines_of}
use Rattle.stream_groups.specs.Reading.{IsFilledBatch}
use Rattle.stream_groups.specs.Taken.{Takes}
use Rattle.stream_groups.proofs.batch.Batch.fill.Given as goal

-- the windows so far, and before the first of them nothing was read
abbrev pub invariant-loop-at : goal.invariant-loop-at
invariant-loop-at g l = record {
  filled : IsFilledBatch (g.S.Source.left l.fn.source) (g.S.Source.left l.source) l.fn.self.next l.fn.self.before l.self false;
  few : length l.self.pieces.items ≤ l._at;
  none : l.self.pieces.items ≡ [] → g.S.Source.left l.source ≡ g.S.Source.left l.fn.source;
  reads : Fills (g.S.Source.left l.fn.source) (g.S.Source.left l.source) l.fn.self.next.rest (lines_of l.self.pieces.items ++ l.self.next.rest);
  rest : l.self.pieces.items ≡ [] → l.self.next.rest ≡ l.fn.self.next.rest;
  faults : g.S.Source.faults l.fn.source ≤ g.S.Source.faults l.source;
  taken : Takes (g.S.Source.left l.fn.source) (g.S.Source.left l.source) (g.S.Source.faults l.fn.source) (g.S.Source.faults l.source) l.fn.taken l.taken;
}
