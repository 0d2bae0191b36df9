use Rattle.std.proofs.Common.{refl, arith}
use Rattle.uses_region.proofs.tests.a_ring_passes_the_end_of_its_counts.Goals as goal

pub create-tx-requires-clause-power : goal.create-tx-requires-clause-power
create-tx-requires-clause-power g c = (2, refl, omega arith)
