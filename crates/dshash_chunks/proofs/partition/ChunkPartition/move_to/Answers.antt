use Rattle.std.proofs.Common.{ℕ, sym, subst}
use Rattle.dshash_core.specs.Cells.{IsRoomy}
use Rattle.dshash_chunks.proofs.Shown.{len-shown}
use Rattle.dshash_chunks.proofs.partition.ChunkPartition.move_to.Goals as goal

pub returns-clause-roomy : goal.returns-clause-roomy
returns-clause-roomy g c = subst (λ (n : ℕ). IsRoomy c.move_partition.new.p.size n) (sym (len-shown c.self.inside.store.words c.move_partition.new.p.cells)) c.move_partition.ensures.roomy
