use Rattle.par_exchange.proofs.Tracks as phases
use Rattle.par_exchange.proofs.laws.gathers_each.Goals as goal

pub returns : goal.returns
returns g c = phases.gathers_each
