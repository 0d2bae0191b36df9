use Rattle.dshash_parts.proofs.Replays.{keys_are_cells}
use Rattle.dshash_parts.proofs.laws.keys_are_cells.Goals as goal

pub returns : goal.returns
returns g c = λ step number key es h. keys_are_cells step number key es h
