use Rattle.std.proofs.Common.{arith}
use Rattle.state_whole.proofs.Sums.{begun}
use Rattle.state_whole.proofs.files.Sum.new.Goals as goal

pub returns-clause-none : goal.returns-clause-none
returns-clause-none c = begun _ c.new.ensures.empty c.new-2.ensures.items (omega arith)
