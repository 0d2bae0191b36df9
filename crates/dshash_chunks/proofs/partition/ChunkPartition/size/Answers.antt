use Rattle.std.proofs.Common.{ℕ, sym, subst}
use Rattle.std.specs.FinMap as fin
use Rattle.dshash_core.specs.Cells.{IsRoomy, PartitionView}
use Rattle.dshash_chunks.specs.declared.held.Held.{Held}
use Rattle.dshash_chunks.proofs.Shown.{len-shown}
use Rattle.dshash_chunks.proofs.partition.ChunkPartition.size.Goals as goal

pub returns-clause-roomy : goal.returns-clause-roomy
returns-clause-roomy g c = subst (λ (w : PartitionView Held). IsRoomy c.size.result (fin.len w.cells)) c.self.view_is
    (subst (λ (n : ℕ). IsRoomy c.size.result n) (sym (len-shown c.self.inside.store.words c.self.inside.names.cells)) c.size.ensures.roomy)
