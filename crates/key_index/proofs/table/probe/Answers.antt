use Rattle.std.proofs.Common.{refl}
use Rattle.key_index.specs.Index.{probe}
use Rattle.key_index.proofs.table.probe.Goals as goal

pub returns-clause-place : goal.returns-clause-place
unfolding probe
returns-clause-place c = refl
