use Rattle.atomic_table.proofs.Lists.{at_index}
use Rattle.uses_load.proofs.keys.keys_load.Goals as goal

pub map_vec-requires-after_bounds : goal.map_vec-requires-after_bounds
map_vec-requires-after_bounds g c κs within = λ i x lt e. let t = c.in_ok-region.ensures in (t.table, t.keys, t.area, t.home, t.rest i x (at_index _ i x lt e), c.requires.calls_few, c.requires.keys_some)
