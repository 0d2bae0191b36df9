-- What a key was called with are the calls of all callers, each once: the law of the table's keys, of the states alone.
use Rattle.std.proofs.Common.{◌≡◌, ◌++◌, ◌∙◌, ℕ, zero, suc, List, map, ap, refl, subst}
use Rattle.std.specs.List.Sorted.{IsPermutation}
use Rattle.std.proofs.lemmas.List.{map-append}
use Rattle.std.proofs.lemmas.List.Sorted.{IsPermutation-map}
use Rattle.lock_book.specs.History.{calls_by}
use Rattle.par_model.specs.declared.state.AggState.{AggState}
use Rattle.dshash_parts.specs.Callers as parts
use Rattle.dshash_parts.specs.Replays.{calls_of_key}
use Rattle.dshash_parts.proofs.Callers.{callers_make_all}
use Rattle.agg_cell.specs.Called.{CallersMakeAll, History, called, called_below}

abbrev state_of : AggState × Unit {0} → AggState
state_of made = made.0

-- the states of the calls of all callers below a number
below_states : (n : ℕ) (key : List ℕ) (es : History) → map state_of (parts.called_below n key es) ≡ called_below n key es
below_states zero key es = refl
below_states (suc n) key es =
    map-append state_of (parts.called_below n key es) (calls_of_key key (calls_by n es))
    ∙ ap (λ (states : List AggState). states ++ called key (calls_by n es)) (below_states n key es)

pub callers : CallersMakeAll
callers count key es none = subst (λ (states : List AggState). IsPermutation states (called key es)) (below_states count key es)
    (IsPermutation-map state_of (parts.called_below count key es) (calls_of_key key es) (callers_make_all count key es none))
