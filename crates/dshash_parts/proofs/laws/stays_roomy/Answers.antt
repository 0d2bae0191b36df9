use Rattle.dshash_parts.proofs.Replays.{stays_roomy}
use Rattle.dshash_parts.proofs.laws.stays_roomy.Goals as goal

pub returns : goal.returns
returns g c = λ step number es h. stays_roomy step number es h
