-- The state under a key of a table after its calls: the called states, all combined.
use Rattle.std.specs.Prelude.{◌≡◌, ◌<◌, ◌≤◌, ◌^◌, ◌++◌, ℕ, zero, suc, List, [], ◌∷◌, All, Option, Some, None, fold, length, map, slice_index_or, sum_by}
use Rattle.std.specs.FinMap as fin
use Rattle.std.specs.List.{filter_map, flat_map}
use Rattle.std.specs.Option.{option_to_list}
use Rattle.std.specs.List.Sorted.{IsPermutation}
use Rattle.lock_book.specs.declared.view.Entry.{Entry}
use Rattle.lock_book.specs.History.{IsLegal, calls_by, last_of}
use Rattle.lock_book.specs.Told.{Histories}
use Rattle.par_model.specs.Aggregate.{no_values}
use Rattle.par_model.specs.Plan.{Plan}
use Rattle.par_model.specs.declared.state.AggState.{AggState}
use Rattle.partial_agg.specs.Groups.{GroupsByKey, added, group_of}
use Rattle.partial_agg.specs.Laws.{IsSettled, both}
use Rattle.partial_agg.specs.Rows.{IsAccepted}
use Rattle.partial_agg.specs.State.{combined}
use Rattle.dshash_core.specs.Cells.{partition_of}
use Rattle.dshash_core.specs.Key.{hash_of}
use Rattle.dshash_parts.specs.Legal.{PartitionLegal}
use Rattle.dshash_parts.specs.Replays.{calls_of_key}
use Rattle.dshash_parts.specs.States.{PartitionState, fresh}
use Rattle.dshash_parts.specs.Tables.{map_at}
use Rattle.dshash_parts.specs.declared.histories.PartitionCalls.{PartitionCalls}
use Rattle.dshash_parts.specs.declared.histories.PartitionReplies.{PartitionReplies}
use Rattle.agg_cell.specs.Cell.{stepped}

-- some states combined in order, or nothing of none
abbrev pub all_combined : List AggState → Option AggState
all_combined [] = None
all_combined (state ∷ states) = Some (fold combined state states)

-- the history of a partition of a table of such cells
abbrev pub History : Type 0
History = List (Entry (PartitionState AggState) (PartitionCalls AggState) (PartitionReplies AggState (Unit {0})))

-- the states of the calls of a key that were made there, in order
abbrev pub called : List ℕ → History → List AggState
called key es = map (λ made. made.0) (calls_of_key key es)

-- what a pass of the table has seen of the partitions
abbrev pub Seen : Type 0
Seen = Histories (PartitionState AggState) (PartitionCalls AggState) (PartitionReplies AggState (Unit {0}))

-- the state under a key after all that a pass has seen
abbrev pub stands : Seen → List ℕ → Option AggState
stands seen key = fin.get (map_at seen (partition_of (hash_of key))) key

-- the states with which a pass has seen a key called, in order
abbrev pub called_in : Seen → List ℕ → List AggState
called_in seen key = called key (seen (partition_of (hash_of key)))

-- In each legal history of a partition, what a key has at last is all that it was called with, combined
abbrev pub CellsCombine : Type 0
CellsCombine = (number : ℕ) (key : List ℕ) (es : History) → IsLegal (λ _. PartitionLegal stepped number) fresh es → fin.get (last_of fresh es).cells key ≡ all_combined (called key es)

-- the states with which the callers below a number have called a key: each caller's calls in order, one caller after
-- the other
abbrev pub called_below : ℕ → List ℕ → History → List AggState
called_below zero key es = []
called_below (suc n) key es = called_below n key es ++ called key (calls_by n es)

-- The states with which a key was called are those of the calls of all callers, each once
abbrev pub CallersMakeAll : Type 0
CallersMakeAll = (callers : ℕ) (key : List ℕ) (es : History) → ((n : ℕ) → callers ≤ n → calls_by n es ≡ []) → IsPermutation (called_below callers key es) (called key es)

-- how many values a slot of a state has
abbrev pub count_at : ℕ → AggState → ℕ
count_at i state = (slice_index_or state.slots i no_values).count

-- the values of each slot, over all states, are no more than a machine number can count
abbrev pub CountsFit : List AggState → Type 0
CountsFit states = (i : ℕ) → sum_by (count_at i) states < 2 ^ 64

-- the order of the states doesn't matter
abbrev pub AnyOrder : Type 0
AnyOrder = (xs ys : List AggState) → All IsSettled xs → CountsFit xs → IsPermutation xs ys → all_combined ys ≡ all_combined xs

-- and they may be combined in parts
abbrev pub PartsCombine : Type 0
PartsCombine = (xs ys : List AggState) → CountsFit (xs ++ ys) → all_combined (xs ++ ys) ≡ both (all_combined xs) (all_combined ys)

-- the rows of all parts, one part after the other
abbrev pub all_rows : List (List (List (List ℕ))) → List (List (List ℕ))
all_rows parts = flat_map (λ rows. rows) parts

-- the aggregates of a key in each part of the rows that has it
abbrev pub groups_in : Plan → List (List (List (List ℕ))) → List ℕ → List AggState
groups_in plan parts key = filter_map (λ rows. group_of plan rows key) parts

-- The aggregates of a key in parts of the rows, all combined in any order, are those of all rows
abbrev pub GroupsCombine : Type 0
GroupsCombine = (plan : Plan) (width : ℕ) (parts : List (List (List (List ℕ)))) (key : List ℕ) (states : List AggState) → length plan.items ≤ 8 → All (IsAccepted plan width) (all_rows parts) → length (all_rows parts) < 2 ^ 64
    → IsPermutation (groups_in plan parts key) states → all_combined states ≡ group_of plan (all_rows parts) key

-- the map after these states were added under a key, one after another
abbrev pub with_states : GroupsByKey → List ℕ → List AggState → GroupsByKey
with_states groups key states = fold (λ so_far state. added so_far key state) groups states

-- The combined state of some states, added once under a key, gives the map that these give: so an entry of a table
-- stands for all that its key was called with
abbrev pub AddsAtOnce : Type 0
AddsAtOnce = (groups : GroupsByKey) (key : List ℕ) (states : List AggState) (state : AggState) → all_combined states ≡ Some state → CountsFit (option_to_list (fin.get groups key) ++ states) → added groups key state ≡ with_states groups key states
