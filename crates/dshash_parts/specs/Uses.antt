-- What goes with each call of a table, as one fact for the functions of a caller.
use Rattle.std.specs.Prelude.{◌≡◌, ℕ}
use Rattle.atomic_table.specs.Seated.{TableId}
use Rattle.lock_book.specs.declared.kept.Kept.{Ghosts}
use Rattle.lock_book.specs.declared.shelf.Pass.{Pass}
use Rattle.dsa_area.specs.declared.area.Area.{Area}
use Rattle.dsa_area.specs.declared.area.AreaPass.{AreaPass}
use Rattle.dsa_area.specs.Shown.{Belongs as AreaBelongs, IsArea}
use Rattle.dshash_parts.specs.States.{PartitionState}
use Rattle.dshash_parts.specs.Tables.{Belongs, IsHome, IsTable, key_words_of}
use Rattle.dshash_parts.specs.declared.asks.TableAsk.{TableAsk}
use Rattle.dshash_parts.specs.declared.asks.TableAnswer.{TableAnswer}
use Rattle.dshash_parts.specs.declared.histories.PartitionName.{PartitionName}
use Rattle.dshash_parts.specs.declared.histories.PartitionCalls.{PartitionCalls}
use Rattle.dshash_parts.specs.declared.histories.PartitionReplies.{PartitionReplies}
use Rattle.dshash_parts.specs.declared.numbered.Numbered.{Numbered}
use Rattle.dshash_parts.specs.declared.table.Dshash.{Dshash}

-- The table and its area are in this region, the table was made with the area, keys have this many words, and the two
-- passes are theirs
pub record IsAtHome {O S C R : Type 0} {g : Ghosts (Numbered O S C R) TableId (TableAsk O S C R) (TableAnswer O S C R) PartitionName (PartitionState S) (PartitionCalls C) (PartitionReplies S R)} (region : TableId) (a : Area) (t : Dshash O S C R) (key_words : ℕ) (pass : Pass (Numbered O S C R) TableId (TableAsk O S C R) (TableAnswer O S C R) PartitionName (PartitionState S) (PartitionCalls C) (PartitionReplies S R) g) (apass : AreaPass) : Type 0 where
  pub table : IsTable region t
  pub keys : key_words_of t ≡ key_words
  pub own : Belongs t pass
  pub area : IsArea region a
  pub home : IsHome a t
  pub area_own : AreaBelongs a apass
