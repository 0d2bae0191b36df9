use Rattle.std.proofs.Common.{◌≤◌, ◌-◌, length}
use Rattle.std.specs.Io.KnownBytes.{Keeps, prepend_known}
use Rattle.numbered_rows.specs.declared.front.TheConstants.{FRONT}
use Rattle.numbered_rows.proofs.front.read_front.Given as goal

-- nothing that was left is lost
abbrev pub invariant-reads : goal.invariant-reads
invariant-reads g l = record {
  keeps : Keeps (prepend_known l.fn.front.items (g.S.Source.left l.fn.source)) (prepend_known l.front.items (g.S.Source.left l.source));
  faults : g.S.Source.faults l.fn.source ≤ g.S.Source.faults l.source;
}

abbrev pub decreases-reads : goal.decreases-reads
decreases-reads g l = FRONT - length l.front.items
