use Rattle.state_once.proofs.Files.{files_are_once}
use Rattle.state_once.proofs.files_are_once.Goals as goal

pub returns : goal.returns
returns c = files_are_once
