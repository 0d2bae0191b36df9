use Rattle.std.proofs.Common.{arith}
use Rattle.state_source.proofs.Rests.{reads_first}
use Rattle.state_source.proofs.first.read_first.Goals as goal

pub tries-init : goal.tries-init
tries-init g c = record {
  reads = reads_first (g.S.Source.left c.args.source.now) c.new-bytes.result.items c.new-bytes.ensures.items;
  piece = c.in-Ok.ensures;
  some = omega arith;
  faults = omega arith;
}
