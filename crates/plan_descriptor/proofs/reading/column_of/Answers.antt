use Rattle.std.proofs.Common.{arith}
use Rattle.plan_descriptor.proofs.reading.column_of.Goals as goal

pub returns-clause-word : goal.returns-clause-word
returns-clause-word c = omega arith
