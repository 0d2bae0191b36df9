use Rattle.std.proofs.Common.{ℕ, sym, subst}
use Rattle.std.specs.FinMap as fin
use Rattle.dshash_core.specs.Hung.{Hung}
use Rattle.dshash_core.specs.Cells.{IsRoomy, cells_of}
use Rattle.dshash_core.proofs.Flats.{cells_len}
use Rattle.dshash_core.proofs.partition.Partition.would_crowd.Goals as goal

pub returns-clause-roomy : goal.returns-clause-roomy
returns-clause-roomy g c =
    let dec = g.O.CellObject.decoded in
    let len = cells_len c.self.inside.size c.self.inside.count g.O.CellObject.VALUE_WORDS c.self.inside.buckets c.self.invariant.cells dec in
    subst (λ (u : Hung). IsRoomy c.self.inside.size (fin.len (cells_of dec u.chains))) (sym c.is_crowded.ensures.same) (subst (λ (n : ℕ). IsRoomy c.self.inside.size n) (sym len) c.self.invariant.cells.roomy)
