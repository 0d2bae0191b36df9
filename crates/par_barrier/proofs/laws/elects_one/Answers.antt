use Rattle.par_barrier.proofs.Histories as histories
use Rattle.par_barrier.proofs.laws.elects_one.Goals as goal

pub returns : goal.returns
returns c = histories.elects_one
