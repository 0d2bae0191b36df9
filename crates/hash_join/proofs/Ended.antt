-- A row that was not put into the table, whatever the cause.
use Rattle.std.proofs.Common.{◌≡◌, ◌++◌, ◌∷◌, [], ℕ, List, false}
use Rattle.atomic_table.specs.Seated.{TableId}
use Rattle.csv_rows.specs.Records.{field_of}
use Rattle.lock_book.specs.declared.kept.Kept.{Ghosts}
use Rattle.lock_book.specs.declared.shelf.Pass.{Pass}
use Rattle.lock_book.specs.Shown.{mine_of, number_of}
use Rattle.dsa_area.specs.Shown.{pages_mine}
use Rattle.dsa_area.specs.declared.area.Area.{Area}
use Rattle.dsa_area.specs.declared.area.AreaPass.{AreaPass}
use Rattle.dshash_parts.specs.States.{PartitionState}
use Rattle.dshash_parts.specs.Tables.{item_of, seed_of}
use Rattle.dshash_parts.specs.Traces.{sight_of}
use Rattle.dshash_parts.specs.Within.{CallEnded}
use Rattle.dshash_parts.specs.declared.asks.TableAnswer.{TableAnswer}
use Rattle.dshash_parts.specs.declared.asks.TableAsk.{TableAsk}
use Rattle.dshash_parts.specs.declared.histories.PartitionCalls.{PartitionCalls}
use Rattle.dshash_parts.specs.declared.histories.PartitionName.{PartitionName}
use Rattle.dshash_parts.specs.declared.histories.PartitionReplies.{PartitionReplies}
use Rattle.dshash_parts.specs.declared.numbered.Numbered.{Numbered}
use Rattle.dshash_parts.specs.declared.table.Dshash.{Dshash}
use Rattle.dshash_parts.specs.declared.within.NoRoom.{NoRoom}
use Rattle.dshash_parts.specs.declared.within.NoRoom.TheVariants.{Space, Chain}
use Rattle.row_blocks.specs.Blocks.{Table}
use Rattle.par_model.specs.Record.{is_null}
use Rattle.join_pairs.specs.Chains.{last_step}
use Rattle.join_pairs.specs.declared.chains.Link.{Link}
use Rattle.hash_join.specs.Filled.{HasPut, key_of, longest_chain}
use Rattle.hash_join.proofs.Putting.{put_away, put_spilled}

module _ (records : Table) (column row : ℕ) {O : Type 0} {g : Ghosts (Numbered O ℕ ℕ ℕ) TableId (TableAsk O ℕ ℕ ℕ) (TableAnswer O ℕ ℕ ℕ) PartitionName (PartitionState ℕ) (PartitionCalls ℕ) (PartitionReplies ℕ ℕ)} (t : Dshash O ℕ ℕ ℕ) (a : Area)
    (p : Pass (Numbered O ℕ ℕ ℕ) TableId (TableAsk O ℕ ℕ ℕ) (TableAnswer O ℕ ℕ ℕ) PartitionName (PartitionState ℕ) (PartitionCalls ℕ) (PartitionReplies ℕ ℕ) g) (u : AreaPass)
    (q : Pass (Numbered O ℕ ℕ ℕ) TableId (TableAsk O ℕ ℕ ℕ) (TableAnswer O ℕ ℕ ℕ) PartitionName (PartitionState ℕ) (PartitionCalls ℕ) (PartitionReplies ℕ ℕ) g) (w : AreaPass)
    (rows : List ℕ) (links : List Link) (spilled : List ℕ) (some : is_null (field_of records row column) ≡ false) (h : HasPut records column rows (mine_of p) (pages_mine u) links spilled) where
  pub put_ended : (why : NoRoom) → CallEnded last_step t a p u q w (key_of records column row) row longest_chain why → HasPut records column (rows ++ row ∷ []) (mine_of q) (pages_mine w) links (spilled ++ row ∷ [])
  put_ended (Space lack) x = put_spilled records column row a (number_of p) (sight_of p u) (sight_of q w) x.0 x.2 rows links spilled some h (item_of t) lack.pages lack.largest x.1
  put_ended Chain x = put_away records column row a (number_of p) (sight_of p u) (sight_of q w) x.0 x.2 rows links spilled some h (item_of t) (seed_of t) x.1
