-- What is under a name, as a pass of the table has seen it.
use Rattle.std.specs.Prelude.{◌≡◌, ◌↔◌, ℕ, Bool, true, cond, List, [], ◌∷◌, ◌++◌, length, Option, Some, None}
use Rattle.std.specs.FinMap as fin
use Rattle.lock_book.specs.Told.{Histories}
use Rattle.lock_book.specs.declared.view.Entry.{Entry}
use Rattle.dshash_core.specs.Key.{hash_of}
use Rattle.dshash_core.specs.Cells.{partition_of}
use Rattle.dshash_parts.specs.States.{PartitionState}
use Rattle.dshash_parts.specs.Tables.{map_at}
use Rattle.dshash_parts.specs.Replays.{calls_of_key}
use Rattle.dshash_parts.specs.declared.histories.PartitionCalls.{PartitionCalls}
use Rattle.dshash_parts.specs.declared.histories.PartitionReplies.{PartitionReplies}
use Rattle.uses_table.specs.Texts.{left_by}
use Rattle.uses_table.specs.declared.text.Text.{Text}
use Rattle.uses_table.specs.declared.text.TextCall.{TextCall}
use Rattle.uses_table.specs.declared.text.TextCall.TheVariants.{Get, Set}

-- what is under a key after all that was seen
abbrev pub under : {S C R : Type 0} → Histories (PartitionState S) (PartitionCalls C) (PartitionReplies S R) → List ℕ → Option S
under seen key = fin.get (map_at seen (partition_of (hash_of key))) key

-- the text that a caller's own calls left under a name
abbrev pub own_text : Histories (PartitionState Text) (PartitionCalls TextCall) (PartitionReplies Text (Option Text)) → List ℕ → Option Text
own_text mine name = left_by None (calls_of_key name (mine (partition_of (hash_of name))))

-- These events are the calls of a swap of the text under a name, and no others: a look that found this, and a change if
-- it was made
pub record AreSwap (events : List (Entry (PartitionState Text) (PartitionCalls TextCall) (PartitionReplies Text (Option Text)))) (name : List ℕ) (found : Option Text) (text : Text) (swapped : Bool) : Type 0 where
  pub calls : calls_of_key name events ≡ (Get, found) ∷ cond swapped ((Set text, found) ∷ []) []
  pub no_others : length events ≡ length (calls_of_key name events)

-- The history that is seen ends with the events of a swap, with no others between them, which are the pass's own next
-- ones; it was made exactly if the expected text was found
pub record Swapped (seen mine mine' : List (Entry (PartitionState Text) (PartitionCalls TextCall) (PartitionReplies Text (Option Text)))) (name : List ℕ) (expected text : Text) (swapped : Bool) : Type 0 where
  pub found : Option Text
  pub before : List (Entry (PartitionState Text) (PartitionCalls TextCall) (PartitionReplies Text (Option Text)))
  pub events : List (Entry (PartitionState Text) (PartitionCalls TextCall) (PartitionReplies Text (Option Text)))
  pub ends : seen ≡ before ++ events
  pub own : mine' ≡ mine ++ events
  pub told : swapped ≡ true ↔ (found ≡ Some expected)
  pub swap : AreSwap events name found text swapped
