use Rattle.par_exchange.proofs.Present as phases
use Rattle.par_exchange.proofs.laws.ends_with_all.Goals as goal

pub returns : goal.returns
returns g c = phases.ends_with_all
