use Rattle.std.proofs.Common.{◌≤◌, arith}
use Rattle.uses_load.proofs.spares.pairs.Goals as goal

pub loop-number-init : goal.loop-number-init
loop-number-init g c = record { own = c.requires.own; spares = c.in-Ok.ensures.spares c.args.r.now; few = omega arith }
