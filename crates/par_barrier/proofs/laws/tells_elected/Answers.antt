use Rattle.par_barrier.proofs.Histories as histories
use Rattle.par_barrier.proofs.laws.tells_elected.Goals as goal

pub returns : goal.returns
returns c = histories.tells_elected
