use Rattle.std.proofs.Common.{ℕ, is_some, sym, subst}
use Rattle.dshash_core.specs.Cells.{IsRoomy, AreCells}
use Rattle.dshash_core.proofs.Flats.{cells_len}
use Rattle.dshash_core.proofs.Steps.{answered_cells}
use Rattle.dshash_core.proofs.partition.Partition.try_call_with_hash.Goals as goal

pub returns-clause-roomy : goal.returns-clause-roomy
returns-clause-roomy g c =
    let after : AreCells c.self.inside.size c.answer.new.count g.O.CellObject.VALUE_WORDS c.answer.new.buckets =
    answered_cells g.O.CellObject.stepped g.O.CellObject.decoded c.self.inside.size c.self.inside.count c.answer.new.count g.O.CellObject.VALUE_WORDS c.self.inside.buckets c.answer.new.buckets
    c.args.key.now c.args.call.now (is_some c.args.spare) c.answer.result c.self.invariant.cells c.answer.ensures.answered in
    subst (λ (n : ℕ). IsRoomy c.self.inside.size n) (sym (cells_len c.self.inside.size c.answer.new.count g.O.CellObject.VALUE_WORDS c.answer.new.buckets after g.O.CellObject.decoded)) after.roomy
