use Rattle.dshash_parts.proofs.Homes.{any_home}
use Rattle.dshash_parts.proofs.table.Dshash.on_slices_with_seed.Goals as goal

pub returns-clause-home : goal.returns-clause-home
returns-clause-home g c = any_home c.with_home.result c.with_home.ensures.home
