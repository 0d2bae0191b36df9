use Rattle.par_exchange.proofs.Tracks as phases
use Rattle.par_exchange.proofs.laws.gives_each.Goals as goal

pub returns : goal.returns
returns g c = phases.gives_each
