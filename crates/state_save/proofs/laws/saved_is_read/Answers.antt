use Rattle.state_save.proofs.Files.{saved_read}
use Rattle.state_save.proofs.laws.saved_is_read.Goals as goal

pub returns : goal.returns
returns c = saved_read
