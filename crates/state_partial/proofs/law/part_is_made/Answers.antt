use Rattle.state_partial.proofs.Made.{part_is_made}
use Rattle.state_partial.proofs.law.part_is_made.Goals as goal

pub returns : goal.returns
returns c = part_is_made
