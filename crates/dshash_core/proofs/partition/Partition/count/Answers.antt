use Rattle.std.proofs.Common.{ap, sym, ◌∙◌}
use Rattle.std.specs.FinMap as fin
use Rattle.dshash_core.specs.Cells.{PartitionView}
use Rattle.dshash_core.proofs.Flats.{cells_len}
use Rattle.dshash_core.proofs.partition.Partition.count.Goals as goal

pub returns-clause-is : goal.returns-clause-is
returns-clause-is g c =
    sym (cells_len c.self.inside.size c.self.inside.count g.O.CellObject.VALUE_WORDS c.self.inside.buckets c.self.invariant.cells g.O.CellObject.decoded)
    ∙ ap (λ (v : PartitionView g.row.O-State.Denot). fin.len v.cells) c.self.view_is
