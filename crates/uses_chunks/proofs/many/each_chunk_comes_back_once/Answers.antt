use Rattle.std.proofs.Common.{sym, subst}
use Rattle.chunk_table.specs.Tables.{AreAll}
use Rattle.uses_chunks.proofs.Lone.{lone}
use Rattle.uses_chunks.proofs.many.each_chunk_comes_back_once.Goals as goal

pub close-closed-requires-clause-all : goal.close-closed-requires-clause-all
close-closed-requires-clause-all g c κs = subst (λ passes. AreAll c.in_ok-r.table passes) (sym c.in-Ok.ensures.items) (lone c.in_ok-r.table.shelf c.take_half.new.pass c.in_ok-r.ensures.callers c.take_half.ensures.ready.own)

pub take_rest-requires-clause-parts : goal.take_rest-requires-clause-parts
take_rest-requires-clause-parts g c = (c.in_ok-r.table, c.close-closed.ensures.parts c.in_ok-r.r c.in_ok-r.ensures.ready.table, c.in_ok-r.ensures.ready.keys)
