use Rattle.std.proofs.Common.{ℕ, IfOk, sym, subst}
use Rattle.std.specs.FinMap as fin
use Rattle.dshash_core.specs.Cells.{IsRoomy, PartitionView}
use Rattle.dshash_core.specs.Listing.{pairs_of}
use Rattle.dshash_core.proofs.Moves.{either_result}
use Rattle.dshash_chunks.specs.declared.held.Held.{Held}
use Rattle.dshash_chunks.specs.Outcomes.{ListsNames}
use Rattle.dshash_chunks.proofs.Shown.{len-shown, lists_shown}
use Rattle.dshash_chunks.proofs.partition.ChunkPartition.list.Goals as goal

pub returns-clause-roomy : goal.returns-clause-roomy
returns-clause-roomy g c = subst (λ (w : PartitionView Held). IsRoomy w.size (fin.len w.cells)) c.self.view_is
    (subst (λ (n : ℕ). IsRoomy c.self.inside.names.size n) (sym (len-shown c.self.inside.store.words c.self.inside.names.cells)) c.list.ensures.roomy)

pub returns-clause-all : goal.returns-clause-all
returns-clause-all g c = subst (λ (w : PartitionView Held). IfOk c.list.result (λ v. ListsNames w.cells (pairs_of v.items))) c.self.view_is
    (either_result c.list.result _ _ (λ v l. lists_shown c.self.inside.store.words c.self.inside.names.cells (pairs_of v.items) l) c.list.ensures.all)
