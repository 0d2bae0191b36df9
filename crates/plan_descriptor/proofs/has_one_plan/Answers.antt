use Rattle.plan_descriptor.proofs.Planned.{same_plans}
use Rattle.plan_descriptor.proofs.has_one_plan.Goals as goal

pub returns : goal.returns
returns c = same_plans
