use Rattle.std.proofs.Common.{is_some, option_map}
use Rattle.lock_book.specs.Shown.{number_of, seen_of, mine_of}
use Rattle.dshash_core.specs.Key.{hash_of}
use Rattle.dshash_core.specs.Cells.{partition_of}
use Rattle.dshash_chunks.specs.Held.{held_in, stepped}
use Rattle.dshash_chunks.specs.declared.held.ChunkCalls.TheVariants as chunk
use Rattle.dshash_chunks.specs.declared.held.ChunkReplies.TheVariants as said
use Rattle.chunk_table.specs.Tables.{item_of, sight_of}
use Rattle.dshash_parts.proofs.Ends.{gave_spare}
use Rattle.chunk_table.proofs.table.ChunkTable.put_chunk.Goals as goal

pub returns-in-Ok-clause-made : goal.returns-in-Ok-clause-made
returns-in-Ok-clause-made g c =
    gave_spare (partition_of (hash_of c.args.key.now)) (item_of c.args.self.now) c.args.key.now (chunk.Put (held_in c.args.chunk)) (stepped g.W.ChunkObject.worked) c.args.area.now (number_of c.args.pass.now) (sight_of c.args.pass.now c.args.apass.now)
    (seen_of c.put_with_spare.new.pass) (mine_of c.put_with_spare.new.pass) c.put_with_spare.new.apass c.give_spare.new.apass (is_some c.put_with_spare.new.spare) (said.Was (option_map held_in c.in-Ok.before)) c.in-Ok.ensures.made c.give_spare.ensures.gave c.give_spare.ensures.area_caller
