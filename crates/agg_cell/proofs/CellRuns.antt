-- The calls of a key as those of one cell: the called states, combined one after the other.
use Rattle.std.proofs.Common.{◌≡◌, ◌++◌, ℕ, List, [], ◌∷◌, Bool, cond, Option, Some, None, Result, Ok, Err, IfOk, OnOk, append_assoc, fold, map, ap, sym, refl, ◌∙◌}
use Rattle.std.proofs.lemmas.List.{map-append}
use Rattle.dshash_core.specs.Cells.{partition_of}
use Rattle.dshash_core.specs.Key.{hash_of}
use Rattle.dshash_core.proofs.Maps.{same_key}
use Rattle.lock_book.specs.History.{entry, last_of}
use Rattle.par_model.specs.declared.state.AggState.{AggState}
use Rattle.partial_agg.specs.Groups.{joined}
use Rattle.partial_agg.specs.State.{combined}
use Rattle.dshash_parts.specs.Promises.{IsLastCall}
use Rattle.dshash_parts.specs.Replays.{IsOneCell, IsRun, calls_of_key, made_of}
use Rattle.dshash_parts.specs.States.{fresh}
use Rattle.dshash_parts.specs.declared.histories.PartitionCalls.TheVariants.{Call}
use Rattle.dshash_parts.specs.declared.histories.PartitionReplies.TheVariants.{Made}
use Rattle.dshash_parts.proofs.Replays.{keys_are_cells}
use Rattle.agg_cell.specs.Called.{CellsCombine, History, Seen, all_combined, called, called_in, stands}
use Rattle.agg_cell.specs.Cell.{stepped}
use Rattle.std.specs.FinMap as fin

-- a cell after some more states
abbrev pub more : Option AggState → List AggState → Option AggState
more cell [] = cell
more cell (state ∷ states) = more (Some (joined cell state)) states

pub more-some : (state : AggState) (states : List AggState) → more (Some state) states ≡ Some (fold combined state states)
more-some state [] = refl
more-some state (next ∷ states) = more-some (combined state next) states

pub more-none : (states : List AggState) → more None states ≡ all_combined states
more-none [] = refl
more-none (state ∷ states) = more-some state states

run_is : (cell : Option AggState) (made : List (AggState × Unit {0})) (last : Option AggState) → IsRun stepped cell made last → last ≡ more cell (map (λ m. m.0) made)
run_is cell [] last run = sym run
run_is cell (m ∷ made) last run = run_is (Some (joined cell m.0)) made last run.1

pub cells : CellsCombine
cells number key es lawful =
    run_is None (calls_of_key key es) (fin.get (last_of fresh es).cells key) (keys_are_cells stepped number key es lawful)
    ∙ more-none (called key es)

-- ---- what was called in a history that goes on

called-append : (key : List ℕ) (es fs : History) → called key (es ++ fs) ≡ called key es ++ called key fs
called-append key [] fs = refl
called-append key (e ∷ es) fs =
    let here = made_of key e.call e.reply in
    map-append state_of here (calls_of_key key (es ++ fs))
    ∙ ap (λ (states : List AggState). map state_of here ++ states) (called-append key es fs)
    ∙ sym (append_assoc (map state_of here) (called key es) (called key fs))
    ∙ ap (λ (states : List AggState). states ++ called key fs) (sym (map-append state_of here (calls_of_key key es)))
  where
    state_of : AggState × Unit {0} → AggState
    state_of made = made.0

-- a call that is the last of a history was called last
pub called_last : (n : ℕ) (key : List ℕ) (state : AggState) (seen : History) → (x : IsLastCall n key state tt seen) → called key seen ≡ called key x.before ++ state ∷ []
called_last n key state seen x =
    let last = entry n (Call key state x.spare) (Made tt x.unused x.freed) x.after in
    ap (called key) x.ends ∙ called-append key x.before (last ∷ [])
    ∙ ap (λ (b : Bool). called key x.before ++ map (λ (made : AggState × Unit {0}). made.0) (cond b ((state, tt) ∷ []) [] ++ [])) (same_key key key refl)

-- ---- what a pass has seen

pub seen_is : (seen : Seen) (key : List ℕ) → IsOneCell stepped seen key → stands seen key ≡ all_combined (called_in seen key)
seen_is seen key run = run_is None (calls_of_key key (seen (partition_of (hash_of key)))) (stands seen key) run ∙ more-none (called_in seen key)

-- after a call that was made its state was the last
pub seen_last : {E : Type 0} (n : ℕ) (key : List ℕ) (state : AggState) (seen : Seen) (result : Result (Unit {0}) E) → IfOk result (λ reply. IsLastCall n key state reply (seen (partition_of (hash_of key))))
    → OnOk result ((before : List AggState) × (called_in seen key ≡ before ++ state ∷ []))
seen_last n key state seen (Ok reply) last = (called key last.before, called_last n key state (seen (partition_of (hash_of key))) last)
seen_last n key state seen (Err e) last = tt
