use Rattle.std.proofs.Common.{ℕ, sym, ap, subst, ◌∙◌}
use Rattle.std.specs.FinMap as fin
use Rattle.dshash_core.specs.Cells.{PartitionView, IsRoomy}
use Rattle.dshash_core.proofs.Flats.{cells_len}
use Rattle.dshash_core.proofs.partition.Partition.size.Goals as goal

pub returns-clause-roomy : goal.returns-clause-roomy
returns-clause-roomy g c =
    let len = sym (cells_len c.self.inside.size c.self.inside.count g.O.CellObject.VALUE_WORDS c.self.inside.buckets c.self.invariant.cells g.O.CellObject.decoded) ∙ ap (λ (v : PartitionView g.row.O-State.Denot). fin.len v.cells) c.self.view_is in
    subst (λ (n : ℕ). IsRoomy c.self.inside.size n) len c.self.invariant.cells.roomy
