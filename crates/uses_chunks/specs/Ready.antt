-- What goes with each call of a table of chunks, as one fact for the functions of a caller.
use Rattle.std.specs.Prelude.{◌≡◌}
use Rattle.atomic_table.specs.Seated.{TableId}
use Rattle.lock_book.specs.declared.kept.Kept.{Ghosts}
use Rattle.lock_book.specs.declared.shelf.Pass.{Pass}
use Rattle.dsa_area.specs.declared.area.Area.{Area}
use Rattle.dsa_area.specs.declared.area.AreaPass.{AreaPass}
use Rattle.dsa_area.specs.Shown.{Belongs as AreaBelongs, IsArea}
use Rattle.dshash_chunks.specs.declared.held.Held.{Held}
use Rattle.dshash_chunks.specs.declared.held.ChunkCalls.{ChunkCalls}
use Rattle.dshash_chunks.specs.declared.held.ChunkReplies.{ChunkReplies}
use Rattle.dshash_parts.specs.States.{PartitionState}
use Rattle.dshash_parts.specs.declared.histories.PartitionName.{PartitionName}
use Rattle.dshash_parts.specs.declared.histories.PartitionCalls.{PartitionCalls}
use Rattle.dshash_parts.specs.declared.histories.PartitionReplies.{PartitionReplies}
use Rattle.chunk_table.specs.declared.asks.ChunkAsk.{ChunkAsk}
use Rattle.chunk_table.specs.declared.asks.ChunkAnswer.{ChunkAnswer}
use Rattle.chunk_table.specs.declared.locked.Locked.{Locked}
use Rattle.chunk_table.specs.declared.table.ChunkTable.{ChunkTable}
use Rattle.chunk_table.specs.Tables.{Belongs, IsTable, key_words_of}

-- the table and the area are in this region, keys have one word, and the two passes are theirs
pub record IsReady {W C R : Type 0} {g : Ghosts (Locked W C R) TableId (ChunkAsk W C R) (ChunkAnswer W C R) PartitionName (PartitionState Held) (PartitionCalls (ChunkCalls C)) (PartitionReplies Held (ChunkReplies R))} (region : TableId) (a : Area) (t : ChunkTable W C R) (pass : Pass (Locked W C R) TableId (ChunkAsk W C R) (ChunkAnswer W C R) PartitionName (PartitionState Held) (PartitionCalls (ChunkCalls C)) (PartitionReplies Held (ChunkReplies R)) g) (apass : AreaPass) : Type 0 where
  pub table : IsTable region t
  pub keys : key_words_of t ≡ 1
  pub own : Belongs t pass
  pub area : IsArea region a
  pub area_own : AreaBelongs a apass
