-- Lists that go on by one: the groups of a part that are added; and what was read of the group at a place.
use Rattle.std.proofs.Common.{◌≡◌, ◌<◌, ◌+◌, ◌++◌, ◌==◌, ◌∙◌, ℕ, Bool, true, false, cond, List, [], ◌∷◌, All, Some, filter, fold, length, map, slice_index_or, drop, take, take-append-drop, refl, ap, sym, arith, append-nil}
use Rattle.std.specs.List.{slice_get}
use Rattle.std.proofs.lemmas.List.{drop_all, get_or-map, take_all}
use Rattle.std.proofs.lemmas.List.Elements.{filter_more}
use Rattle.std.proofs.lemmas.Option.{get_or_from_slice_get}
use Rattle.par_model.specs.declared.state.AggState.{AggState}
use Rattle.par_model.specs.declared.state.SlotState.{SlotState}
use Rattle.partial_agg.specs.Groups.{GroupsByKey, added}
use Rattle.partial_agg.specs.Listed.{state_at}
use Rattle.partial_agg.specs.State.{empty_state}
use Rattle.partial_agg.specs.declared.groups.Group.{Group}
use Rattle.gather_law.specs.KeyParts.{groups_in, with_listed}

pub fold_push : {X Y : Type 0} (f : Y → X → Y) (xs : List X) (y : Y) (x : X) → fold f y (xs ++ x ∷ []) ≡ f (fold f y xs) x
fold_push f [] y x = refl
fold_push f (z ∷ xs) y x = fold_push f xs (f y z) x

pub no_group : Group
no_group = record { key = []; state = empty_state }

-- ---- the groups of a part

module _ (part_of : List ℕ → ℕ) (part : ℕ) where
  abbrev within : Group → Bool
  within g = part_of g.key == part

  abbrev step : GroupsByKey → Group → GroupsByKey
  step so_far g = added so_far g.key g.state

  pub added_next : (groups : List Group) (at : ℕ) (d : Group) (start mid new : GroupsByKey) → at < length groups → mid ≡ with_listed start (groups_in part_of part (take at groups))
      → (part_of (slice_index_or groups at d).key == part) ≡ true → new ≡ added mid (slice_index_or groups at d).key (slice_index_or groups at d).state → new ≡ with_listed start (groups_in part_of part (take (at + 1) groups))
  added_next groups at d start mid new lt before kept now =
      let g = slice_index_or groups at d in
      now ∙ ap (λ (m : GroupsByKey). added m g.key g.state) before
      ∙ sym (ap (with_listed start) (filter_more within groups at d lt ∙ ap (λ b. filter within (take at groups) ++ cond b (g ∷ []) []) kept) ∙ fold_push step (filter within (take at groups)) start g)

  pub passed_next : (groups : List Group) (at : ℕ) (d : Group) (start mid : GroupsByKey) → at < length groups → mid ≡ with_listed start (groups_in part_of part (take at groups))
      → (part_of (slice_index_or groups at d).key == part) ≡ false → mid ≡ with_listed start (groups_in part_of part (take (at + 1) groups))
  passed_next groups at d start mid lt before left =
      let g = slice_index_or groups at d in
      before ∙ sym (ap (with_listed start) (filter_more within groups at d lt ∙ ap (λ b. filter within (take at groups) ++ cond b (g ∷ []) []) left ∙ append-nil (filter within (take at groups))))

-- ---- the group of a place, by what was read there

pub read_key : (groups : List Group) (at : ℕ) (d : Group) (key : List ℕ) → at < length groups → slice_get (map (λ (g : Group). g.key) groups) at ≡ Some key → key ≡ (slice_index_or groups at d).key
read_key groups at d key lt is =
    let k : Group → List ℕ = λ g. g.key in
    sym (get_or_from_slice_get (map k groups) at key [] is) ∙ get_or-map k groups at d [] lt

slots_are : (new old there : List SlotState) → take 8 new ≡ take 8 there → drop 8 new ≡ drop 8 old → length old ≡ 8 → length there ≡ 8 → new ≡ there
slots_are new old there front rest eight whole =
    sym (take-append-drop 8 new) ∙ (λ i. front i ++ (rest ∙ drop_all 8 old (omega (arith, eight))) i) ∙ append-nil (take 8 there) ∙ take_all 8 there (omega (arith, whole))

pub read_state : (groups : List Group) (at : ℕ) (d : Group) (new old : AggState) → at < length groups → All (λ (g : Group). length g.state.slots ≡ 8) groups → length old.slots ≡ 8 → new.rows ≡ (state_at groups at).rows
    → take 8 new.slots ≡ take 8 (state_at groups at).slots → drop 8 new.slots ≡ drop 8 old.slots → new ≡ (slice_index_or groups at d).state
read_state groups at d new old lt whole eight rows front rest =
    let s : Group → AggState = λ g. g.state in
    let there : state_at groups at ≡ (slice_index_or groups at d).state = get_or-map s groups at d empty_state lt in
    let long : length (state_at groups at).slots ≡ 8 = ap (λ (t : AggState). length t.slots) there ∙ whole at d lt in
    let slots = slots_are new.slots old.slots (state_at groups at).slots front rest eight long in
    (λ i. record { rows = rows i; slots = slots i }) ∙ there
