use Rattle.std.proofs.Common.{List, ℕ, is_some, refl, subst}
use Rattle.lock_book.specs.Shown.{opens_of, number_of, seen_of, mine_of}
use Rattle.dshash_chunks.specs.Held.{held_in, stepped}
use Rattle.dshash_chunks.specs.declared.held.ChunkCalls.TheVariants as chunk
use Rattle.dshash_parts.specs.Tables.{AtPartition}
use Rattle.dshash_parts.specs.declared.histories.PartitionCalls.TheVariants.{Call}
use Rattle.dshash_parts.proofs.Sizes.{turn_grows}
use Rattle.dshash_parts.proofs.Owners.{lawful}
use Rattle.dshash_parts.proofs.Events.{turn}
use Rattle.chunk_table.specs.Asked.{outcome_of}
use Rattle.chunk_table.specs.Tables.{name_in}
use Rattle.chunk_table.proofs.Others.{no_other_put}
use Rattle.chunk_table.proofs.turns.put_at.Goals as goal

pub unreachable-requires : goal.unreachable-requires
unreachable-requires g c = no_other_put (name_in c.args.r.now c.args.table.now c.args.number) c.args.hash c.of.result c.args.chunk c.args.spare c.call.result (c.call.ensures.output _ (c.requires.table.parts c.args.number c.requires.number)) c.in_default.not-Placed

pub returns-clause-event : goal.returns-clause-event
returns-clause-event g c =
    subst (λ (z : List ℕ). AtPartition (stepped g.W.ChunkObject.worked) (number_of c.args.pass.now) (seen_of c.args.pass.now) (mine_of c.args.pass.now) (seen_of c.call.new.pass) (mine_of c.call.new.pass) c.args.number (Call z (chunk.Put (held_in c.args.chunk)) (is_some c.args.spare)) (outcome_of c.in-Placed.out)) c.of.ensures
    (turn (stepped g.W.ChunkObject.worked) g.W.ChunkObject.may (opens_of c.args.table.now.shelf) _ _ _ _ _ c.args.number _ _ (name_in c.args.r.now c.args.table.now c.args.number) (c.requires.table.parts c.args.number c.requires.number) refl (c.in-Placed.ensures.own.0.stands.lawful c.args.number _ (c.requires.table.parts c.args.number c.requires.number)) c.in-Placed.ensures.called)

pub returns-clause-grows : goal.returns-clause-grows
returns-clause-grows g c = λ k low. turn_grows (stepped g.W.ChunkObject.worked) _ _ _ _ _ c.args.number _ _ k (lawful (stepped g.W.ChunkObject.worked) g.W.ChunkObject.may k _ (c.in-Placed.ensures.own.0.stands.lawful k _ (c.requires.table.parts k low))) (returns-clause-event g c)
