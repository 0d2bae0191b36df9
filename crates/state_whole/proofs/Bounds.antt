-- The bound on the rows of a group.
use Rattle.std.proofs.Common.{◌≡◌, ◌<◌, ◌≤◌, ◌+◌, ◌^◌, ◌∙◌, ◌⊎◌, ℕ, List, [], All, ap, arith, below_more, get_or, inl, inr, length, refl, subst, sym}
use Rattle.std.specs.List.Sorted.{IsPermutation}
use Rattle.std.proofs.lemmas.List.{get_or-map}
use Rattle.std.proofs.lemmas.List.Elements.{All-contains, Contains-get_or}
use Rattle.std.proofs.lemmas.List.Sorted.{All-permutation, Contains-permutation, IsPermutation-sym}
use Rattle.par_model.specs.declared.state.AggState.{AggState}
use Rattle.partial_agg.specs.Listed.{state_at}
use Rattle.partial_agg.specs.State.{empty_state}
use Rattle.partial_agg.specs.declared.groups.Group.{Group as MapGroup}
use Rattle.state_whole.specs.Adding.{HasRows}

-- a group past the bound
pub past : (rows : ℕ) (groups : List MapGroup) → 2 ^ 50 < rows → (rows ≡ 0) ⊎ HasRows rows groups → All (λ (g : MapGroup). g.state.rows ≤ 2 ^ 50) groups → ⊥
past rows groups more (inl none) all = omega (arith, more, none)
past rows groups more (inr has) all =
    let few = All-contains (λ (g : MapGroup). g.state.rows ≤ 2 ^ 50) groups has.group all has.is in
    let is = has.has in
    omega (arith, more, few, is)

-- a bound stays one if it grows
pub bound_more : (groups : List MapGroup) (a b : ℕ) → a ≤ b → All (λ (g : MapGroup). g.state.rows ≤ a) groups → All (λ (g : MapGroup). g.state.rows ≤ b) groups
bound_more groups a b le all = λ k d lt.
    let here = all k d lt in
    omega (arith, here, le)

-- ---- the most rows

-- a group at a place before this one has this many rows
pub record IsAt (groups : List MapGroup) (at rows : ℕ) : Type 0 where
  pub k : ℕ
  pub before : k < at
  pub has : (state_at groups k).rows ≡ rows

-- the most rows of the groups before a place
pub record IsMostTo (groups : List MapGroup) (at most : ℕ) : Type 0 where
  pub bound : (k : ℕ) → k < at → (state_at groups k).rows ≤ most
  pub reached : (most ≡ 0) ⊎ IsAt groups at most

pub none_most : (groups : List MapGroup) → IsMostTo groups 0 0
none_most groups = record { bound = λ k lt. absurd (omega (arith, lt)); reached = inl refl }

pub most_more : (groups : List MapGroup) (at most rows next : ℕ) → IsMostTo groups at most → rows ≡ (state_at groups at).rows → most ≤ next → rows ≤ next → (next ≡ most) ⊎ (next ≡ rows) → IsMostTo groups (at + 1) next
most_more groups at most rows next is here one other which = record { bound = λ k lt. below k lt; reached = go which }
  where
    before : (k : ℕ) → k < at → (state_at groups k).rows ≤ next
    before k lt =
        let h = is.bound k lt in
        omega (arith, h, one)

    last : (state_at groups at).rows ≤ next
    last = omega (arith, here, other)

    below : (k : ℕ) → k < at + 1 → (state_at groups k).rows ≤ next
    below = below_more (λ (k : ℕ). (state_at groups k).rows ≤ next) at before last

    kept : (next ≡ most) → (most ≡ 0) ⊎ IsAt groups at most → (next ≡ 0) ⊎ IsAt groups (at + 1) next
    kept same (inl none) = inl (same ∙ none)
    kept same (inr a) = let lt = a.before in inr (record { k = a.k; before = omega (arith, lt); has = a.has ∙ sym same })

    go : (next ≡ most) ⊎ (next ≡ rows) → (next ≡ 0) ⊎ IsAt groups (at + 1) next
    go (inl same) = kept same is.reached
    go (inr same) = inr (record { k = at; before = omega arith; has = sym (same ∙ here) })

no_group : MapGroup
no_group = record { key = []; state = empty_state }

group_state : (groups : List MapGroup) (k : ℕ) (d : MapGroup) → k < length groups → state_at groups k ≡ (get_or groups k d).state
group_state groups k d lt = get_or-map (λ (g : MapGroup). g.state) groups k d empty_state lt

-- the same of the groups in another order
pub all_bound : (listed groups : List MapGroup) (most : ℕ) → IsPermutation listed groups → IsMostTo groups (length groups) most → All (λ (g : MapGroup). g.state.rows ≤ most) listed
all_bound listed groups most same is = All-permutation (λ (g : MapGroup). g.state.rows ≤ most) groups listed (IsPermutation-sym listed groups same) each
  where
    each : All (λ (g : MapGroup). g.state.rows ≤ most) groups
    each k d lt = subst (λ (s : AggState). s.rows ≤ most) (group_state groups k d lt) (is.bound k lt)

pub has_most : (listed groups : List MapGroup) (most : ℕ) → IsPermutation listed groups → IsMostTo groups (length groups) most → (most ≡ 0) ⊎ HasRows most listed
has_most listed groups most same is = go is.reached
  where
    go : (most ≡ 0) ⊎ IsAt groups (length groups) most → (most ≡ 0) ⊎ HasRows most listed
    go (inl none) = inl none
    go (inr a) = inr (record {
      group = get_or groups a.k no_group;
      is = Contains-permutation groups listed (get_or groups a.k no_group) (IsPermutation-sym listed groups same) (Contains-get_or groups a.k no_group a.before);
      has = ap (λ (s : AggState). s.rows) (sym (group_state groups a.k no_group a.before)) ∙ a.has;
    })
