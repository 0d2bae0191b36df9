use Rattle.std.proofs.Common.{ℕ, ap, sym, subst, ◌∙◌}
use Rattle.std.specs.FinMap as fin
use Rattle.dshash_core.specs.Hung.{Hung}
use Rattle.dshash_core.specs.Cells.{PartitionView, IsRoomy, AreCells, cells_of, partition_seen}
use Rattle.dshash_core.proofs.Flats.{cells_len}
use Rattle.dshash_core.proofs.Takes.{all_empty, no_cells}
use Rattle.dshash_core.proofs.partition.Partition.take_any.Goals as goal

pub returns-then-self-eq0-clause-roomy : goal.returns-then-self-eq0-clause-roomy
returns-then-self-eq0-clause-roomy g c =
    let len = cells_len c.self.inside.size c.self.inside.count g.O.CellObject.VALUE_WORDS c.self.inside.buckets c.self.invariant.cells g.O.CellObject.decoded in
    subst (λ (w : PartitionView g.row.O-State.Denot). IsRoomy w.size (fin.len w.cells)) c.self.view_is (subst (λ (n : ℕ). IsRoomy c.self.inside.size n) (sym len) c.self.invariant.cells.roomy)

pub returns-in_default-clause-none : goal.returns-in_default-clause-none
returns-in_default-clause-none g c =
    let b = c.self.inside.buckets in
    let dec = g.O.CellObject.decoded in (
      sym (ap (λ (w : PartitionView g.row.O-State.Denot). w.cells) c.self.view_is) ∙ no_cells dec b.chains (all_empty b.chains c.in_default.ensures.none),
      ap (λ (u : Hung). partition_seen dec u c.self.inside.size) c.in_default.ensures.same ∙ c.self.view_is,
    )

pub returns-in_default-clause-roomy : goal.returns-in_default-clause-roomy
returns-in_default-clause-roomy g c =
    let dec = g.O.CellObject.decoded in
    let len = cells_len c.self.inside.size c.self.inside.count g.O.CellObject.VALUE_WORDS c.self.inside.buckets c.self.invariant.cells dec in
    subst (λ (u : Hung). IsRoomy c.self.inside.size (fin.len (cells_of dec u.chains))) (sym c.in_default.ensures.same) (subst (λ (n : ℕ). IsRoomy c.self.inside.size n) (sym len) c.self.invariant.cells.roomy)

pub invariant_of-self-2 : goal.invariant_of-self-2
invariant_of-self-2 g c =
    let vw : ℕ = g.O.CellObject.VALUE_WORDS in
    record {
      cells = (c.take_at.ensures.called c.self.inside.size (subst (λ (u : Hung). AreCells c.self.inside.size c.self.inside.count vw u) (sym c.in-Some.ensures.same) c.self.invariant.cells)).cells;
      short = c.self.invariant.short;
    }

pub returns-clause-roomy : goal.returns-clause-roomy
returns-clause-roomy g c =
    let vw : ℕ = g.O.CellObject.VALUE_WORDS in
    let k = (c.take_at.ensures.called c.self.inside.size (subst (λ (u : Hung). AreCells c.self.inside.size c.self.inside.count vw u) (sym c.in-Some.ensures.same) c.self.invariant.cells)).cells in
    subst (λ (n : ℕ). IsRoomy c.self.inside.size n) (sym (cells_len c.self.inside.size c.take_at.new.count vw c.take_at.new.buckets k g.O.CellObject.decoded)) k.roomy
