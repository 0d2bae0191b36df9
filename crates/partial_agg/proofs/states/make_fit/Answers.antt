use Rattle.std.proofs.Common.{arith}
use Rattle.partial_agg.proofs.Lanes.{fits_wide}
use Rattle.partial_agg.proofs.states.make_fit.Goals as goal

pub returns-in-Some-2-clause-fits : goal.returns-in-Some-2-clause-fits
returns-in-Some-2-clause-fits c = fits_wide c.wide-wide.result c.args.slots.now c.wide-wide.ensures (omega arith)
