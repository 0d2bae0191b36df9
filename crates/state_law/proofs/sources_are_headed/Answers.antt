use Rattle.state_law.proofs.Laws.{sources_are_headed}
use Rattle.state_law.proofs.sources_are_headed.Goals as goal

pub returns : goal.returns
returns c = sources_are_headed
