use Rattle.state_once.proofs.Files.{file_is_once}
use Rattle.state_once.proofs.file_is_once.Goals as goal

pub returns : goal.returns
returns c = file_is_once
