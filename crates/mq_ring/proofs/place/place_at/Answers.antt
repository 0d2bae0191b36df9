use Rattle.std.proofs.Common.{ap, ◌+◌}
use Rattle.mq_ring.proofs.Distances.{masked}
use Rattle.mq_ring.proofs.place.place_at.Goals as goal

pub returns : goal.returns
returns c = ap (λ n. c.args.base + 3 + n) (masked c.args.position c.args.size c.requires.power.0 c.requires.power.1)
