-- Past the plan's aggregates the states in the map of some rows have slots without values.
use Rattle.std.proofs.Common.{◌≡◌, ◌-◌, ◌++◌, ◌∙◌, ℕ, zero, suc, Bool, true, false, cond, List, [], ◌∷◌, Option, None, Some, refl, ap, ap₂, sym, subst, drop, filter, fold, length, map as map_list, replicate}
use Rattle.std.proofs.Math.Seq.{drop-append_seam}
use Rattle.std.proofs.lemmas.List.{length-map}
use Rattle.std.specs.Cmp.{eq_by_cmp_equiv}
use Rattle.std.specs.Cmp.Lexicographic.{nat_list_cmp_total}
use Rattle.std.specs.FinMap as map
use Rattle.std.specs.FinMap.Entries.{below_all}
use Rattle.std.specs.Int.{int_wrap}
use Rattle.std.specs.List.{AllByRecursion}
use Rattle.std.specs.Ordering.{eq_by_cmp}
use Rattle.par_model.specs.Aggregate.{no_values, slot_of, state_of_rows}
use Rattle.par_model.specs.Keep.{is_kept}
use Rattle.par_model.specs.Key.{key_of}
use Rattle.par_model.specs.Plan.{Plan}
use Rattle.par_model.specs.declared.state.AggState.{AggState}
use Rattle.par_model.specs.declared.state.SlotState.{SlotState}
use Rattle.partial_agg.specs.Groups.{GroupsByKey, added, joined, key_cmp, with_row}
use Rattle.partial_agg.specs.Laws.{IsEmptyPast, RestIsEmpty}
use Rattle.partial_agg.specs.State.{combined, combined_slots}
use Rattle.partial_agg.proofs.Joining.{absent, both_true, equal, true_of}
use Rattle.partial_agg.proofs.Maps.{Entries}

some_state : (a b : AggState) → Some a ≡ Some b → a ≡ b
some_state a b e = cc

no_some : (a : AggState) → None ≡ Some a → ⊥
no_some a e = cc

drop-combined_slots : (n : ℕ) (slots others : List SlotState) → drop n (combined_slots slots others) ≡ combined_slots (drop n slots) (drop n others)
drop-combined_slots zero slots others = refl
drop-combined_slots (suc n) [] others = refl
drop-combined_slots (suc n) (a ∷ slots) [] = nothing (drop n slots)
  where
    nothing : (slots : List SlotState) → [] ≡ combined_slots slots []
    nothing [] = refl
    nothing (a ∷ slots) = refl
drop-combined_slots (suc n) (a ∷ slots) (b ∷ others) = drop-combined_slots n slots others

none-combined : (n : ℕ) → combined_slots (replicate n no_values) (replicate n no_values) ≡ replicate n no_values
unfolding int_wrap
none-combined zero = refl
none-combined (suc n) = ap (λ (slots : List SlotState). no_values ∷ slots) (none-combined n)

module _ (plan : Plan) where
  of_rows : (rows : List (List (List ℕ))) → IsEmptyPast plan (state_of_rows plan rows)
  unfolding state_of_rows
  of_rows rows =
      let slots = map_list (slot_of rows) plan.items in
      let rest = replicate (8 - length plan.items) no_values in
      ap (λ n. drop n (slots ++ rest)) (sym (length-map plan.items (slot_of rows))) ∙ drop-append_seam slots rest

  of_both : (a b : AggState) → IsEmptyPast plan a → IsEmptyPast plan b → IsEmptyPast plan (combined a b)
  of_both a b h k = drop-combined_slots (length plan.items) a.slots b.slots ∙ ap₂ combined_slots h k ∙ none-combined (8 - length plan.items)

  -- each state of a map
  abbrev AllEmpty : GroupsByKey → Type 0
  AllEmpty groups = (key : List ℕ) (state : AggState) → map.get groups key ≡ Some state → IsEmptyPast plan state

  of_added : (groups : GroupsByKey) (key : List ℕ) (state : AggState) → AllEmpty groups → IsEmptyPast plan state → AllEmpty (added groups key state)
  of_added groups key state all is q s e =
      by (eq_by_cmp key_cmp q key) (sym (map.get-insert nat_list_cmp_total groups key (joined (map.get groups key) state) q) ∙ e)
    where
      of_joined : (before : Option AggState) → ((s : AggState) → before ≡ Some s → IsEmptyPast plan s) → IsEmptyPast plan (joined before state)
      of_joined None h = is
      of_joined (Some before) h = of_both before state (h before refl) is

      by : (b : Bool) → cond b (Some (joined (map.get groups key) state)) (map.get groups q) ≡ Some s → IsEmptyPast plan s
      by true e = subst (IsEmptyPast plan) (some_state (joined (map.get groups key) state) s e) (of_joined (map.get groups key) (all key))
      by false e = all q s e

  of_all : (rows : List (List (List ℕ))) (groups : GroupsByKey) → AllEmpty groups → AllEmpty (fold (with_row plan) groups rows)
  of_all [] groups all = all
  of_all (row ∷ rows) groups all = of_all rows (with_row plan groups row) (of_added groups (key_of plan row) (state_of_rows plan (row ∷ [])) all (of_rows (row ∷ [])))

  -- what is found among entries in order are the states of all
  of_entries : (es : Entries) → map.is_sorted key_cmp es ≡ true → ((key : List ℕ) (state : AggState) → map.find key_cmp key es ≡ Some state → IsEmptyPast plan state)
      → AllByRecursion (λ group. IsEmptyPast plan group.1) es
  of_entries [] up found = tt
  of_entries (e ∷ es) up found =
      let split = both_true (below_all key_cmp e.0 es) (map.is_sorted key_cmp es) up in (
        found e.0 e.1 (ap (λ b. cond b (Some e.1) (map.find key_cmp e.0 es)) ((eq_by_cmp_equiv nat_list_cmp_total).refl e.0)),
        of_entries es split.1 (λ q s h. found q s (later q s (eq_by_cmp key_cmp q e.0) refl split.0 h)),
      )
    where
      later : (q : List ℕ) (s : AggState) (b : Bool) → eq_by_cmp key_cmp q e.0 ≡ b → below_all key_cmp e.0 es ≡ true → map.find key_cmp q es ≡ Some s
          → cond b (Some e.1) (map.find key_cmp q es) ≡ Some s
      later q s false ties below h = h
      later q s true ties below h =
          let same : q ≡ e.0 = map.slice_cmp-IsAntisymmetric map.nat_cmp-IsAntisymmetric q e.0 (equal (key_cmp q e.0) ties) in
          absurd (no_some s (sym (absent e.0 es below) ∙ ap (λ (k : List ℕ). map.find key_cmp k es) (sym same) ∙ h))

pub rest_is_empty : RestIsEmpty
rest_is_empty plan rows =
    let groups = fold (with_row plan) map.empty (filter (is_kept plan) rows) in
    of_entries plan (map.entries groups) (true_of (map.is_sorted key_cmp (map.entries groups)) (map.entries_sorted groups))
    (λ q s e. of_all plan (filter (is_kept plan) rows) map.empty (λ q s e. absurd (no_some s (sym (map.get-empty key_cmp q) ∙ e))) q s (map.get-entries groups q ∙ e))
