use Rattle.std.proofs.Common.{subst, sym}
use Rattle.frozen_table.specs.Parts.{HaveMaps}
use Rattle.frozen_table.proofs.Taken.{list_maps}
use Rattle.frozen_table.proofs.table.FrozenTable.lookup.Goals as goal

pub returns : goal.returns
returns g c = λ maps have.
    list_maps maps c.self.inside.partitions.items c.self.inside.lookup (subst (HaveMaps maps) (sym c.self.view_is) have) c.self.invariant
