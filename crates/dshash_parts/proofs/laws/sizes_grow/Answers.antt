use Rattle.dshash_parts.proofs.Replays.{sizes_grow}
use Rattle.dshash_parts.proofs.laws.sizes_grow.Goals as goal

pub returns : goal.returns
returns g c = λ step number es fs h. sizes_grow step number es fs h
