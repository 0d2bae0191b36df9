use Rattle.gather_law.proofs.KeyParts.{parts_together}
use Rattle.gather_law.proofs.sharing.parts_together.Goals as goal

pub returns : goal.returns
returns c = parts_together
