use Rattle.gather_law.proofs.PartMaps.{parts_join}
use Rattle.gather_law.proofs.sharing.parts_join.Goals as goal

pub returns : goal.returns
returns c = parts_join
