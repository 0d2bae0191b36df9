use Rattle.std.proofs.Common.{◌≤◌, ◌+◌, ◌-◌, ◌<◌, vec_len}
use Rattle.std.specs.Io.KnownBytes.{Consumes}
use Rattle.state_source.proofs.first.read_first.Given as goal

abbrev pub invariant-tries : goal.invariant-tries
invariant-tries g l = record {
  reads : Consumes (g.S.Source.left l.fn.source) (g.S.Source.left l.source) l.bytes.items;
  piece : 0 < vec_len l.piece;
  some : 0 < l.wanted;
  faults : g.S.Source.faults l.fn.source ≤ g.S.Source.faults l.source;
}

abbrev pub decreases-tries : goal.decreases-tries
decreases-tries g l = 1099511627776 + 1 - l.wanted
