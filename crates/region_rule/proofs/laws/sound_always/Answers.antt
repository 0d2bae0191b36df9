use Rattle.region_rule.proofs.Owners.{opens}
use Rattle.region_rule.proofs.Runs.{run_keeps}
use Rattle.region_rule.specs.Steps.{opening}
use Rattle.region_rule.proofs.laws.sound_always.Goals as goal

pub returns : goal.returns
returns c = λ words events after fits run. run_keeps events (opening words) after (opens words fits) run
