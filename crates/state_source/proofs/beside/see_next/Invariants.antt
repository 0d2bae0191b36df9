use Rattle.std.proofs.Common.{◌≤◌}
use Rattle.state_source.specs.Reading.{EndsAt, ReadsOn}
use Rattle.state_source.proofs.beside.see_next.Given as goal

abbrev pub invariant-loop : goal.invariant-loop
invariant-loop g l = record {
  reads : ReadsOn (g.S.Source.left l.fn.source) (g.S.Source.left l.source) l.fn.ahead.bytes l.ahead.bytes;
  end : EndsAt l.ahead.ended (g.S.Source.left l.source);
  faults : g.S.Source.faults l.fn.source ≤ g.S.Source.faults l.source;
}
