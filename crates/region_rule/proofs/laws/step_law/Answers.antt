use Rattle.region_rule.proofs.Keeps.{keeps}
use Rattle.region_rule.proofs.laws.step_law.Goals as goal

pub returns : goal.returns
returns c = keeps
