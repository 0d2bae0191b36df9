use Rattle.std.proofs.Common.{◌≡◌, ◌≤◌, ◌-◌, length, vec_len}
use Rattle.state_source.specs.Reading.{ReadsOn}
use Rattle.state_source.proofs.ahead.read_to.Given as goal

abbrev pub invariant-reads : goal.invariant-reads
invariant-reads g l = record {
  reads : ReadsOn (g.S.Source.left l.fn.source) (g.S.Source.left l.source) l.fn.bytes.items l.bytes.items;
  piece : length l.piece ≡ length l.fn.piece;
  faults : g.S.Source.faults l.fn.source ≤ g.S.Source.faults l.source;
}

abbrev pub decreases-reads : goal.decreases-reads
decreases-reads g l = l.wanted - vec_len l.bytes
