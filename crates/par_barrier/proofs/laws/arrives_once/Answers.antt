use Rattle.par_barrier.proofs.Histories as histories
use Rattle.par_barrier.proofs.laws.arrives_once.Goals as goal

pub returns : goal.returns
returns c = histories.arrives_once
