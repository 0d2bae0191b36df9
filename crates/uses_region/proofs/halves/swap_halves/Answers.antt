use Rattle.std.proofs.Common.{arith}
use Rattle.std.proofs.lemmas.Bool.Decides.{nat_tests}
use Rattle.word_map.proofs.Maps.{answers}
use Rattle.uses_region.proofs.halves.swap_halves.Goals as goal

pub join-low-requires-after_bounds : goal.join-low-requires-after_bounds
join-low-requires-after_bounds g c κs within = (
  (rw c.split-high.ensures.rest c.requires.here, λ k a b. let h = c.requires.owns k (omega arith) in rw c.split-high.ensures.rest (grind (arith, nat_tests, answers))),
  (rw c.split-high.ensures.range c.requires.here, λ k a b. let h = c.requires.owns k (omega arith) in rw c.split-high.ensures.range (grind (arith, nat_tests, answers))),
)
