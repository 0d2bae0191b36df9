use Rattle.std.proofs.Common.{◌≡◌}
use Rattle.dshash_parts.proofs.Homes.{if_some}
use Rattle.dshash_parts.proofs.Opening.{have_words}
use Rattle.dshash_parts.proofs.table.Dshash.with_seed.Goals as goal

pub with_home-requires-clause-slices : goal.with_home-requires-clause-slices
with_home-requires-clause-slices g c κs within = have_words c.args.r.now _ c.in_ok-slices.ensures.slices

pub returns-in-Ok-clause-home : goal.returns-in-Ok-clause-home
returns-in-Ok-clause-home g c = if_some c.in-Ok.made.0.home c.of-home.result (λ h. h.value ≡ c.args.area.now) c.in-Ok.ensures.home c.of-home.ensures
