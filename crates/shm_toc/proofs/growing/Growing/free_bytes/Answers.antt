use Rattle.std.proofs.Common.{ap, ◌∙◌, arith}
use Rattle.region_words.specs.Parts.{Owned}
use Rattle.shm_toc.specs.Table.{free_bytes_of, table_of}
use Rattle.shm_toc.proofs.Tables.{sizes, free_is}
use Rattle.shm_toc.proofs.growing.Growing.free_bytes.Goals as goal

pub overflow_mul-result : goal.overflow_mul-result
overflow_mul-result c = let s = sizes _ _ _ _ c.self.invariant in omega arith

pub overflow_sub-result-2 : goal.overflow_sub-result-2
overflow_sub-result-2 c = let s = sizes _ _ _ _ c.self.invariant in omega arith

pub overflow_sub-result-3 : goal.overflow_sub-result-3
overflow_sub-result-3 c = let s = sizes _ _ _ _ c.self.invariant in omega arith

pub returns : goal.returns
returns c = record { free = free_is _ _ _ _ c.self.invariant ∙ ap (λ (o : Owned). free_bytes_of (table_of o.words)) c.self.view_is }
