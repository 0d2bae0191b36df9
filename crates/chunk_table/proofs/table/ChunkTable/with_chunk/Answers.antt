use Rattle.std.proofs.Common.{◌≡◌, ℕ, false, refl, ap, subst, ◌∙◌}
use Rattle.lock_book.specs.Shown.{number_of, seen_of, mine_of}
use Rattle.dshash_core.specs.Key.{hash_of}
use Rattle.dshash_core.specs.Cells.{partition_of}
use Rattle.dshash_chunks.specs.Held.{stepped}
use Rattle.dshash_chunks.specs.declared.held.ChunkCalls.TheVariants as chunk
use Rattle.dshash_chunks.specs.declared.held.ChunkReplies.TheVariants as said
use Rattle.dshash_parts.specs.Tables.{AtPartition}
use Rattle.dshash_parts.specs.declared.histories.PartitionCalls.TheVariants.{Call}
use Rattle.dshash_parts.specs.declared.histories.PartitionReplies.TheVariants.{Made}
use Rattle.dshash_parts.proofs.Owners.{allowed, lawful, own_cells}
use Rattle.dshash_parts.proofs.Uses.{seen_cells}
use Rattle.dshash_parts.proofs.Visits.{was_there}
use Rattle.chunk_table.proofs.table.ChunkTable.with_chunk.Goals as goal

pub returns-clause-event : goal.returns-clause-event
returns-clause-event g c =
    let home = partition_of (hash_of c.args.key.now) in
    let same_at : c.partition_of_hash-number.result ≡ home = c.partition_of_hash-number.ensures.is ∙ ap partition_of c.hash_key-hash.ensures in
    subst (λ (z : ℕ). AtPartition (stepped g.W.ChunkObject.worked) (number_of c.args.pass.now) (seen_of c.args.pass.now) (mine_of c.args.pass.now) (seen_of c.with_at.new.pass) (mine_of c.with_at.new.pass) z (Call c.args.key.now (chunk.With c.args.call.now) false) (Made (said.Did c.with_at.result) false false)) same_at c.with_at.ensures.event

pub returns-clause-found : goal.returns-clause-found
returns-clause-found g c = (was_there (stepped g.W.ChunkObject.worked) (chunk.With c.args.call.now) refl _ _ _ _ _ (partition_of (hash_of c.args.key.now)) c.args.key.now refl (said.Did c.with_at.result) false (returns-clause-event g c)).found

pub returns-clause-allowed : goal.returns-clause-allowed
returns-clause-allowed g c = λ k few. allowed (stepped g.W.ChunkObject.worked) g.W.ChunkObject.may k _ (c.with_at.ensures.own.stands.lawful k _ (c.requires.table.parts k few))

pub returns-clause-owned : goal.returns-clause-owned
returns-clause-owned g c = own_cells (stepped g.W.ChunkObject.worked) g.W.ChunkObject.may (number_of c.with_at.new.pass) (number_of c.args.pass.now) (seen_of c.with_at.new.pass) (mine_of c.with_at.new.pass) c.with_at.ensures.caller (λ k few. c.with_at.ensures.own.stands.lawful k _ (c.requires.table.parts k few)) c.with_at.ensures.own.stands.own

pub returns-clause-cells : goal.returns-clause-cells
returns-clause-cells g c = seen_cells (stepped g.W.ChunkObject.worked) (seen_of c.with_at.new.pass) (λ k few. lawful (stepped g.W.ChunkObject.worked) g.W.ChunkObject.may k _ (c.with_at.ensures.own.stands.lawful k _ (c.requires.table.parts k few)))
