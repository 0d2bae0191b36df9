use Rattle.ring_rule.proofs.Messages.{frames-same}
use Rattle.ring_rule.proofs.laws.frames_are_told_apart.Goals as goal

pub returns : goal.returns
returns c = frames-same
