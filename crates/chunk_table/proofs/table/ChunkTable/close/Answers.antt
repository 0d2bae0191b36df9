use Rattle.dshash_chunks.specs.Held.{stepped}
use Rattle.std.proofs.Common.{ℕ, ◌≤◌, sym, ap, subst, ◌∙◌, arith}
use lib.ListN.{get_elem?}
use Rattle.dshash_parts.proofs.Owners.{allowed, lawful}
use Rattle.chunk_table.proofs.table.ChunkTable.close.Goals as goal

pub returns-clause-left : goal.returns-clause-left
returns-clause-left g c = c.close.ensures.left ∙ c.requires.table.1.count

pub returns-clause-parts : goal.returns-clause-parts
returns-clause-parts g c = λ region t. record {
  few = subst (λ (n : ℕ). n ≤ 128) (sym (c.close.ensures.left ∙ t.count)) (omega arith);
  parts = λ i low. ap (λ l. get_elem? l i) c.close.ensures.opens ∙ t.parts i low;
}

pub returns-clause-ended : goal.returns-clause-ended
returns-clause-ended g c =
    let e = c.close.ensures.ended in
    record { lawful = λ i low. lawful (stepped g.W.ChunkObject.worked) g.W.ChunkObject.may i _ (e.lawful i _ (c.requires.table.1.parts i low)); begins = e.begins; mine = e.mine; no_others = e.no_others }

pub returns-clause-allowed : goal.returns-clause-allowed
returns-clause-allowed g c = λ i low. allowed (stepped g.W.ChunkObject.worked) g.W.ChunkObject.may i _ (c.close.ensures.ended.lawful i _ (c.requires.table.1.parts i low))
