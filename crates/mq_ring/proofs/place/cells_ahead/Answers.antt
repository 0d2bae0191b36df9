use Rattle.std.proofs.Common.{arith}
use Rattle.mq_ring.proofs.Distances.{masked, below_power}
use Rattle.mq_ring.proofs.place.cells_ahead.Goals as goal

pub returns-clause-ahead : goal.returns-clause-ahead
returns-clause-ahead c =
    let low = below_power c.args.position c.args.size c.requires.power.0 c.requires.power.1 in
    omega (arith, low, masked c.args.position c.args.size c.requires.power.0 c.requires.power.1)

pub returns-clause-some : goal.returns-clause-some
returns-clause-some c =
    let low = below_power c.args.position c.args.size c.requires.power.0 c.requires.power.1 in
    omega (arith, low, masked c.args.position c.args.size c.requires.power.0 c.requires.power.1)
