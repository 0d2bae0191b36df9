use Rattle.std.proofs.Common.{◌≤◌, ◌-◌, length}
use Rattle.std.specs.Io.KnownBytes.{Keeps}
use Rattle.input_hints.specs.Peeking.{peeked_faults, peeked_left}
use Rattle.input_hints.proofs.peeked.Peeked.peek.Given as goal

abbrev pub invariant-reads : goal.invariant-reads
invariant-reads g l = record {
  left : Keeps (peeked_left g.S.Source.left l.fn.self) (peeked_left g.S.Source.left l.self);
  faults : peeked_faults g.S.Source.faults l.fn.self ≤ peeked_faults g.S.Source.faults l.self;
}

abbrev pub decreases-reads : goal.decreases-reads
decreases-reads g l = 16 - length l.self.front
