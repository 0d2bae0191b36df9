use Rattle.region_words.proofs.Same.{one_run}
use Rattle.region_words.proofs.laws.same_run.Goals as goal

pub returns : goal.returns
returns c = one_run
