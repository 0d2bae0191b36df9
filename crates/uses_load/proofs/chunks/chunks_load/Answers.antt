use Rattle.atomic_table.proofs.Lists.{at_index}
use Rattle.uses_load.proofs.chunks.chunks_load.Goals as goal

pub map_vec-requires-after_bounds : goal.map_vec-requires-after_bounds
map_vec-requires-after_bounds g c κs within = λ i x lt e. (c.in_ok-region.ensures.area, c.in_ok-region.ensures.passes.each i x (at_index _ i x lt e), c.requires.bytes, c.requires.bytes_few)
