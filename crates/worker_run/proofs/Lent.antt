-- Groups that are read where they lie in a map.
use Rattle.std.proofs.Common.{◌≡◌, ◌<◌, ◌-◌, ◌++◌, ℕ, List, [], ◌∷◌, All, Some, drop, get_or, length, map, replicate, slice_get, take, refl, ap, sym, subst, ◌∙◌, arith}
use Rattle.std.specs.FinMap as fin
use Rattle.std.specs.List.{AllByRecursion}
use Rattle.std.specs.List.Sorted.{IsPermutation}
use Rattle.std.proofs.lemmas.List.{get_or-map, length-map, take-append-drop}
use Rattle.std.proofs.lemmas.List.Elements.{All-from_recursion}
use Rattle.std.proofs.lemmas.List.Sorted.{All-permutation, IsPermutation-map}
use Rattle.std.proofs.lemmas.Option.{get_or_from_slice_get}
use Rattle.par_model.specs.Aggregate.{no_values}
use Rattle.par_model.specs.declared.state.AggState.{AggState}
use Rattle.partial_agg.specs.Groups.{GroupsByKey}
use Rattle.partial_agg.specs.Listed.{group, listed, state_at}
use Rattle.partial_agg.specs.State.{empty_state}
use Rattle.partial_agg.specs.declared.groups.Group.{Group as Lent}
use Rattle.gather_law.specs.Tuples.{Group}
use Rattle.worker_run.specs.Sent.{HasZeros, pairs_of}

-- ---- all groups of a map

pairs_listed : (es : List Group) → pairs_of (map group es) ≡ es
pairs_listed [] = refl
pairs_listed (e ∷ es) = ap (λ l. e ∷ l) (pairs_listed es)

pub pairs_lent : (groups : GroupsByKey) (lent : List Lent) → IsPermutation (listed groups) lent → IsPermutation (fin.entries groups) (pairs_of lent)
pairs_lent groups lent p =
    subst (λ es. IsPermutation es (pairs_of lent)) (pairs_listed (fin.entries groups)) (IsPermutation-map (λ (g : Lent). (g.key, g.state)) (listed groups) lent p)

pub zeros_lent : (slots : ℕ) (groups : GroupsByKey) (lent : List Lent) → IsPermutation (listed groups) lent → AllByRecursion (HasZeros slots) (fin.entries groups) → All (HasZeros slots) (pairs_of lent)
zeros_lent slots groups lent p z = All-permutation (HasZeros slots) (fin.entries groups) (pairs_of lent) (pairs_lent groups lent p) (All-from_recursion (HasZeros slots) (fin.entries groups) z)

-- ---- one group

abbrev no_group : Lent
no_group = record { key = []; state = empty_state }

-- states with the same rows, front and rest are the same
same_state : (n : ℕ) (read its : AggState) → read.rows ≡ its.rows → take n read.slots ≡ take n its.slots → drop n read.slots ≡ drop n its.slots → read ≡ its
same_state n read its rows front rest =
    let slots : read.slots ≡ its.slots = sym (take-append-drop n read.slots) ∙ (λ i. front i ++ rest i) ∙ take-append-drop n its.slots in
    λ i. record { rows = rows i; slots = slots i }

-- what was read of a group over zeros is the group
pub read_lent : (slots : ℕ) (lent : List Lent) (at : ℕ) (key : List ℕ) (read old : AggState) → at < length lent → All (HasZeros slots) (pairs_of lent) → slice_get (map (λ g. g.key) lent) at ≡ Some key
    → read.rows ≡ (state_at lent at).rows → take slots read.slots ≡ take slots (state_at lent at).slots → drop slots read.slots ≡ drop slots old.slots → drop slots old.slots ≡ replicate (8 - slots) no_values
    → (d : Group) → get_or (pairs_of lent) at d ≡ (key, read)
read_lent slots lent at key read old lt zeros is_key rows front rest none d =
    let g : Lent = get_or lent at no_group in
    let place : get_or (pairs_of lent) at d ≡ (g.key, g.state) = get_or-map (λ (g : Lent). (g.key, g.state)) lent at no_group d lt in
    let its : state_at lent at ≡ g.state = get_or-map (λ (g : Lent). g.state) lent at no_group empty_state lt in
    let its_key : key ≡ g.key = sym (get_or_from_slice_get (map (λ (g : Lent). g.key) lent) at key [] is_key) ∙ get_or-map (λ (g : Lent). g.key) lent at no_group [] lt in
    let within : at < length (pairs_of lent) = omega (arith, length-map {B = Group} lent (λ (g : Lent). (g.key, g.state)), lt) in
    let its_zeros : drop slots g.state.slots ≡ replicate (8 - slots) no_values = subst (HasZeros slots) place (zeros at d within) in
    let same : read ≡ g.state =
    same_state slots read g.state (rows ∙ ap (λ (s : AggState). s.rows) its) (front ∙ ap (λ (s : AggState). take slots s.slots) its) (rest ∙ none ∙ sym its_zeros) in
    place ∙ sym (λ i. (its_key i, same i))
