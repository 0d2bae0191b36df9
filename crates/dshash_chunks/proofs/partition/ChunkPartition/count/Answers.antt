use Rattle.std.proofs.Common.{sym, ap, ◌∙◌}
use Rattle.std.specs.FinMap as fin
use Rattle.dshash_chunks.proofs.Shown.{len-shown}
use Rattle.dshash_chunks.proofs.partition.ChunkPartition.count.Goals as goal

pub returns-clause-is : goal.returns-clause-is
returns-clause-is g c = c.count.ensures.is ∙ (sym (len-shown c.self.inside.store.words c.self.inside.names.cells) ∙ ap (λ w. fin.len w.cells) c.self.view_is)
