-- The calls of a key as those of all callers.
use Rattle.std.specs.Prelude.{◌≡◌, ◌≤◌, ◌++◌, ℕ, zero, suc, List, [], ◌∷◌, Option, None}
use Rattle.std.specs.FinMap as fin
use Rattle.std.specs.List.Sorted.{IsPermutation}
use Rattle.lock_book.specs.declared.view.Entry.{Entry}
use Rattle.lock_book.specs.Folds.{IsCommutativeMonoid, folded_below}
use Rattle.lock_book.specs.History.{calls_by, last_of, IsLegal}
use Rattle.dshash_parts.specs.States.{PartitionState, fresh}
use Rattle.dshash_parts.specs.Legal.{PartitionLegal}
use Rattle.dshash_parts.specs.Replays.{calls_of_key, made_of}
use Rattle.dshash_parts.specs.declared.histories.PartitionCalls.{PartitionCalls}
use Rattle.dshash_parts.specs.declared.histories.PartitionReplies.{PartitionReplies}

-- the calls of a key that the callers below a number made: each caller's in order, one caller after the other
abbrev pub called_below : {S C R : Type 0} → ℕ → List ℕ → List (Entry (PartitionState S) (PartitionCalls C) (PartitionReplies S R)) → List (C × R)
called_below zero key es = []
called_below (suc n) key es = called_below n key es ++ calls_of_key key (calls_by n es)

-- The calls of a key that were made are those of all callers, each once
abbrev pub CallersMakeAll : Type 0 → Type 0 → Type 0 → Type 0
CallersMakeAll S C R = (callers : ℕ) (key : List ℕ) (es : List (Entry (PartitionState S) (PartitionCalls C) (PartitionReplies S R))) → ((n : ℕ) → callers ≤ n → calls_by n es ≡ [])
    → IsPermutation (called_below callers key es) (calls_of_key key es)

-- what calls add, put together by an operation
abbrev pub together : {C R M : Type 0} → (M → M → M) → M → (C → M) → List (C × R) → M
together op unit adds [] = unit
together op unit adds (m ∷ ms) = op (adds m.0) (together op unit adds ms)

-- A cell's value grows by what each call adds, by the operation of a commutative monoid. Then in each legal history of
-- a partition the last state under a key has the value of what all callers added, one caller after another
abbrev pub CellsFold : Type 0 → Type 0 → Type 0 → Type 0 → Type 0
CellsFold S C R M = (op : M → M → M) (unit : M) → IsCommutativeMonoid op unit → (step : Option S → C → Option S × R) (value : Option S → M) (adds : C → M)
    → value None ≡ unit → ((s : Option S) (call : C) → value (step s call).0 ≡ op (value s) (adds call))
    → (number callers : ℕ) (key : List ℕ) (es : List (Entry (PartitionState S) (PartitionCalls C) (PartitionReplies S R))) → IsLegal (λ _. PartitionLegal step number) fresh es → ((n : ℕ) → callers ≤ n → calls_by n es ≡ [])
    → value (fin.get (last_of fresh es).cells key) ≡ folded_below op unit (λ e. together op unit adds (made_of key e.call e.reply)) callers es
