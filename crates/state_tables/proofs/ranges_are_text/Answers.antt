use Rattle.state_tables.proofs.Texts.{ranges_are_text}
use Rattle.state_tables.proofs.ranges_are_text.Goals as goal

pub returns : goal.returns
returns c = ranges_are_text
