use Rattle.mq_handle.proofs.Whole.{whole_longest}
use Rattle.mq_handle.proofs.laws.whole_is_longest.Goals as goal

pub returns : goal.returns
returns c = whole_longest
