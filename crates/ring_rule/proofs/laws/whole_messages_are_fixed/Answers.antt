use Rattle.ring_rule.proofs.Messages.{whole-same}
use Rattle.ring_rule.proofs.laws.whole_messages_are_fixed.Goals as goal

pub returns : goal.returns
returns c = whole-same
