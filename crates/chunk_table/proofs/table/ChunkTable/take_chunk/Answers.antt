use Rattle.std.proofs.Common.{Bool, false, option_map, subst}
use Rattle.lock_book.specs.Shown.{number_of, seen_of, mine_of}
use Rattle.dshash_core.specs.Key.{hash_of}
use Rattle.dshash_core.specs.Cells.{partition_of}
use Rattle.dshash_chunks.specs.Held.{held_in, stepped}
use Rattle.dshash_chunks.specs.declared.held.ChunkCalls.TheVariants as chunk
use Rattle.dshash_chunks.specs.declared.held.ChunkReplies.TheVariants as said
use Rattle.dshash_parts.specs.Tables.{AtPartition}
use Rattle.dshash_parts.specs.declared.histories.PartitionCalls.TheVariants.{Call}
use Rattle.dshash_parts.specs.declared.histories.PartitionReplies.TheVariants.{Made}
use Rattle.dsa_area.specs.Sizes.{chunk_size}
use Rattle.dshash_parts.specs.Sweeps.{GaveBack}
use Rattle.chunk_table.specs.Tables.{item_of}
use Rattle.chunk_table.proofs.table.ChunkTable.take_chunk.Goals as goal

pub returns-clause-event : goal.returns-clause-event
returns-clause-event g c = subst (λ (b : Bool). AtPartition (stepped g.W.ChunkObject.worked) (number_of c.args.pass.now) (seen_of c.args.pass.now) (mine_of c.args.pass.now) (seen_of c.take_out-chunk.new.pass) (mine_of c.take_out-chunk.new.pass) (partition_of (hash_of c.args.key.now)) (Call c.args.key.now chunk.Take false) (Made (said.Was (option_map held_in c.take_out-chunk.result.chunk)) false b)) c.take_out-chunk.ensures.both c.take_out-chunk.ensures.event

pub returns-clause-gave : goal.returns-clause-gave
returns-clause-gave g c = subst (λ (b : Bool). GaveBack c.args.area.now c.args.apass.now c.give_spare.new.apass (chunk_size (item_of c.args.self.now)) b) c.take_out-chunk.ensures.both c.give_spare.ensures.gave
