use Rattle.std.proofs.Common.{List, ℕ, false, refl, subst}
use Rattle.lock_book.specs.Shown.{opens_of, number_of, seen_of, mine_of}
use Rattle.dshash_chunks.specs.Held.{stepped}
use Rattle.dshash_chunks.specs.declared.held.ChunkCalls.TheVariants as chunk
use Rattle.dshash_chunks.specs.declared.held.ChunkReplies.TheVariants as said
use Rattle.dshash_parts.specs.Tables.{AtPartition}
use Rattle.dshash_parts.specs.declared.histories.PartitionCalls.TheVariants.{Call}
use Rattle.dshash_parts.specs.declared.histories.PartitionReplies.TheVariants.{Made}
use Rattle.dshash_parts.proofs.Events.{turn}
use Rattle.chunk_table.specs.Tables.{name_in}
use Rattle.chunk_table.proofs.Others.{no_other_with}
use Rattle.chunk_table.proofs.turns.with_at.Goals as goal

pub unreachable-requires : goal.unreachable-requires
unreachable-requires g c = no_other_with (name_in c.args.r.now c.args.table.now c.args.number) c.args.hash c.of.result c.args.call.now c.call.result (c.call.ensures.output _ (c.requires.table.parts c.args.number c.requires.number)) c.in_default.not-Did

pub returns-clause-event : goal.returns-clause-event
returns-clause-event g c =
    subst (λ (z : List ℕ). AtPartition (stepped g.W.ChunkObject.worked) (number_of c.args.pass.now) (seen_of c.args.pass.now) (mine_of c.args.pass.now) (seen_of c.call.new.pass) (mine_of c.call.new.pass) c.args.number (Call z (chunk.With c.args.call.now) false) (Made (said.Did c.in-Did.reply) false false)) c.of.ensures
    (turn (stepped g.W.ChunkObject.worked) g.W.ChunkObject.may (opens_of c.args.table.now.shelf) _ _ _ _ _ c.args.number _ _ (name_in c.args.r.now c.args.table.now c.args.number) (c.requires.table.parts c.args.number c.requires.number) refl (c.in-Did.ensures.own.0.stands.lawful c.args.number _ (c.requires.table.parts c.args.number c.requires.number)) c.in-Did.ensures.called)
