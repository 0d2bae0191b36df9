use Rattle.gather_merge.proofs.Law.{merges}
use Rattle.gather_merge.proofs.laws.merges_all.Goals as goal

pub returns : goal.returns
returns c = merges
