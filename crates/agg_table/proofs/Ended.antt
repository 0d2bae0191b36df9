-- A call of the table that was not made, whatever the cause.
use Rattle.std.proofs.Common.{ℕ, List, Option}
use Rattle.atomic_table.specs.Seated.{TableId}
use Rattle.lock_book.specs.declared.kept.Kept.{Ghosts}
use Rattle.lock_book.specs.declared.shelf.Pass.{Pass}
use Rattle.lock_book.specs.Shown.{mine_of, number_of}
use Rattle.dsa_area.specs.Shown.{pages_mine}
use Rattle.dsa_area.specs.declared.area.Area.{Area}
use Rattle.dsa_area.specs.declared.area.AreaPass.{AreaPass}
use Rattle.dshash_core.specs.Key.{packed_key}
use Rattle.dshash_parts.specs.States.{PartitionState}
use Rattle.dshash_parts.specs.Tables.{item_of, seed_of}
use Rattle.dshash_parts.specs.Traces.{Event, sight_of, Trace}
use Rattle.dshash_parts.specs.Within.{CallEnded}
use Rattle.dshash_parts.specs.declared.asks.TableAnswer.{TableAnswer}
use Rattle.dshash_parts.specs.declared.asks.TableAsk.{TableAsk}
use Rattle.dshash_parts.specs.declared.histories.PartitionCalls.{PartitionCalls}
use Rattle.dshash_parts.specs.declared.histories.PartitionName.{PartitionName}
use Rattle.dshash_parts.specs.declared.histories.PartitionReplies.{PartitionReplies}
use Rattle.dshash_parts.specs.declared.numbered.Numbered.{Numbered}
use Rattle.dshash_parts.specs.declared.table.Dshash.{Dshash}
use Rattle.dshash_parts.specs.declared.within.NoRoom.{NoRoom}
use Rattle.dshash_parts.specs.declared.within.NoRoom.TheVariants.{Space, Chain}
use Rattle.par_model.specs.declared.state.AggState.{AggState}
use Rattle.agg_table.specs.Calls.{Group, IsLeft, longest_chain}
use Rattle.agg_table.proofs.Putting.{is_away, is_left}

module _ {O : Type 0} {g : Ghosts (Numbered O AggState AggState (Unit {0})) TableId (TableAsk O AggState AggState (Unit {0})) (TableAnswer O AggState AggState (Unit {0})) PartitionName (PartitionState AggState) (PartitionCalls AggState) (PartitionReplies AggState (Unit {0}))}
    (step : Option AggState → AggState → Option AggState × Unit {0}) (t : Dshash O AggState AggState (Unit {0})) (a : Area)
    (p : Pass (Numbered O AggState AggState (Unit {0})) TableId (TableAsk O AggState AggState (Unit {0})) (TableAnswer O AggState AggState (Unit {0})) PartitionName (PartitionState AggState) (PartitionCalls AggState) (PartitionReplies AggState (Unit {0})) g) (u : AreaPass)
    (q : Pass (Numbered O AggState AggState (Unit {0})) TableId (TableAsk O AggState AggState (Unit {0})) (TableAnswer O AggState AggState (Unit {0})) PartitionName (PartitionState AggState) (PartitionCalls AggState) (PartitionReplies AggState (Unit {0})) g) (w : AreaPass) where
  -- its events
  pub ended_trace : (key : List ℕ) (call : AggState) (longest : ℕ) (why : NoRoom) → CallEnded step t a p u q w key call longest why → (es : List (Event AggState AggState (Unit {0}))) × Trace step a (number_of p) (sight_of p u) (sight_of q w) es
  ended_trace key call longest (Space lack) x = (x.0, x.2)
  ended_trace key call longest Chain x = (x.0, x.2)

  -- a group that was not put in is left
  pub is_ended : (group : Group) (why : NoRoom) → CallEnded step t a p u q w (packed_key group.0) group.1 longest_chain why
      → IsLeft (record { turns = mine_of p; pages = pages_mine u }) (record { turns = mine_of q; pages = pages_mine w }) group
  is_ended group (Space lack) x = is_left step a (number_of p) group (sight_of p u) (sight_of q w) x.0 x.2 (item_of t) lack.pages lack.largest x.1
  is_ended group Chain x = is_away step a (number_of p) group (sight_of p u) (sight_of q w) x.0 x.2 (item_of t) (seed_of t) x.1
