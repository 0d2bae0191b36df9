-- The aggregates of a key in parts of the rows combine to those of all rows.
use Rattle.std.proofs.Common.{◌≡◌, ◌<◌, ◌≤◌, ◌+◌, ◌-◌, ◌^◌, ◌++◌, ◌∙◌, ◌==◌, ◌&&◌, ℕ, zero, suc, Bool, true, false, List, [], ◌∷◌, Option, Some, None, All, length, map, filter, replicate, get_or, not, if◌then◌else◌, cond, ap, sym, refl, subst, arith, append_assoc, append-nil, length-append, bytes_eq}
use Rattle.std.specs.List.{AllByRecursion, cons_option, sum_by}
use Rattle.std.proofs.lemmas.List.Elements.{All-append, All-cons, All-from_recursion, All-head, All-nil, All-tail}
use Rattle.std.proofs.lemmas.List.Sums.{sum_by-cons}
use Rattle.std.proofs.lemmas.List.{length-map}
use Rattle.par_model.specs.Aggregate.{no_values, rows_of, slot_by, slot_of, state_of, state_of_rows, values_of}
use Rattle.par_model.specs.Keep.{is_kept}
use Rattle.par_model.specs.Key.{key_of}
use Rattle.par_model.specs.Plan.{Plan}
use Rattle.par_model.specs.Record.{field_of, is_null}
use Rattle.par_model.specs.declared.plan.Item.{Item}
use Rattle.par_model.specs.declared.plan.ItemKind.{ItemKind}
use Rattle.par_model.specs.declared.plan.ItemKind.TheVariants as kind
use Rattle.par_model.specs.declared.state.AggState.{AggState}
use Rattle.partial_agg.specs.Groups.{group_of}
use Rattle.partial_agg.specs.Laws.{IsSettled, both}
use Rattle.partial_agg.specs.Rows.{IsAccepted}
use Rattle.partial_agg.proofs.Adding.{both-none, both-some, groups_add}
use Rattle.partial_agg.proofs.Combining.{settles}
use Rattle.agg_cell.specs.Called.{GroupsCombine, all_rows, count_at, groups_in}
use Rattle.agg_cell.proofs.Orders.{any_order}
use Rattle.agg_cell.proofs.CellRuns.{more, more-none}

abbrev Table : Type 0
Table = List (List (List ℕ))

-- ---- the parts one after the other

all_front : {A : Type 0} (P : A → Type 0) (xs ys : List A) → All P (xs ++ ys) → All P xs
all_front P [] ys h = All-nil P
all_front P (x ∷ xs) ys h = All-cons P x xs (All-head P x (xs ++ ys) h) (all_front P xs ys (All-tail P x (xs ++ ys) h))

all_back : {A : Type 0} (P : A → Type 0) (xs ys : List A) → All P (xs ++ ys) → All P ys
all_back P [] ys h = h
all_back P (x ∷ xs) ys h = all_back P xs ys (All-tail P x (xs ++ ys) h)

module _ (plan : Plan) (width : ℕ) (key : List ℕ) where
  next : (done part : Table) → All (IsAccepted plan width) done → All (IsAccepted plan width) part → length done + length part < 2 ^ 64 → (group : Option AggState) → group_of plan part key ≡ group
      → both (group_of plan done key) group ≡ group_of plan (done ++ part) key
  next done part h k fits group e = ap (both (group_of plan done key)) (sym e) ∙ sym (groups_add plan width done part key h k fits)

  in_order : (done : Table) (parts : List Table) → All (IsAccepted plan width) done → All (IsAccepted plan width) (all_rows parts) → length done + length (all_rows parts) < 2 ^ 64
      → more (group_of plan done key) (groups_in plan parts key) ≡ group_of plan (done ++ all_rows parts) key
  in_order done [] h k fits = ap (λ (rows : Table). group_of plan rows key) (sym (append-nil done))
  in_order done (part ∷ parts) h k fits =
      by (group_of plan part key) refl ∙ in_order (done ++ part) parts (All-append (IsAccepted plan width) done part h front) (all_back (IsAccepted plan width) part (all_rows parts) k) (omega (arith, length-append done part, length-append part (all_rows parts)))
      ∙ ap (λ (rows : Table). group_of plan rows key) (append_assoc done part (all_rows parts))
    where
      front : All (IsAccepted plan width) part
      front = all_front (IsAccepted plan width) part (all_rows parts) k

      few : length done + length part < 2 ^ 64
      few = omega (arith, length-append part (all_rows parts))

      by : (group : Option AggState) → group_of plan part key ≡ group → more (group_of plan done key) (cons_option group (groups_in plan parts key)) ≡ more (group_of plan (done ++ part) key) (groups_in plan parts key)
      by None e = ap (λ o. more o (groups_in plan parts key)) (sym (both-none (group_of plan done key)) ∙ next done part h front few None e)
      by (Some s) e = ap (λ o. more o (groups_in plan parts key)) (sym (both-some (group_of plan done key) s) ∙ next done part h front few (Some s) e)

-- ---- the states of groups are settled, and their counts fit

filter_few : {A : Type 0} (p : A → Bool) (xs : List A) → length (filter p xs) ≤ length xs
filter_few p [] = omega arith
filter_few p (x ∷ xs) = by (p x) (filter_few p xs)
  where
    by : (b : Bool) → length (filter p xs) ≤ length xs → length (cond b (x ∷ filter p xs) (filter p xs)) ≤ suc (length xs)
    by true h = omega arith
    by false h = omega arith

values_few : (column : ℕ) (rows : Table) → length (values_of column rows) ≤ length rows
values_few column rows = omega (arith, filter_few (λ field. not (is_null field)) (map (λ row. field_of row column) rows), length-map rows (λ (row : List (List ℕ)). field_of row column))

slot_few : (k : ItemKind) (places column : ℕ) (rows : Table) → (slot_by k places (values_of column rows)).count ≤ length rows
slot_few kind.Rows places column rows = omega arith
slot_few kind.Count places column rows = values_few column rows
slot_few kind.Sum places column rows = values_few column rows
slot_few kind.Min places column rows = values_few column rows
slot_few kind.Max places column rows = values_few column rows
slot_few kind.Avg places column rows = values_few column rows

slots_few : (items : List Item) (fill i : ℕ) (rows : Table) → (get_or (map (slot_of rows) items ++ replicate fill no_values) i no_values).count ≤ length rows
slots_few [] zero i rows = omega arith
slots_few [] (suc fill) zero rows = omega arith
slots_few [] (suc fill) (suc i) rows = slots_few [] fill i rows
slots_few (item ∷ items) fill zero rows = slot_few item.kind item.places item.column rows
slots_few (item ∷ items) fill (suc i) rows = slots_few items fill i rows

count_few : (plan : Plan) (i : ℕ) (rows : Table) → count_at i (state_of_rows plan rows) ≤ length rows
unfolding state_of_rows
count_few plan i rows = slots_few plan.items (8 - length plan.items) i rows

module _ (plan : Plan) (key : List ℕ) where
  one_state : (rows : Table) (state : AggState) → group_of plan rows key ≡ Some state → state ≡ state_of plan rows key
  one_state rows state e = by (length (rows_of plan rows key) == 0) e
    where
      by : (b : Bool) → (if b then None else Some (state_of plan rows key)) ≡ Some state → state ≡ state_of plan rows key
      by true e = cc
      by false e = cc

  settled : length plan.items ≤ 8 → (parts : List Table) → AllByRecursion IsSettled (groups_in plan parts key)
  settled few [] = tt
  settled few (part ∷ parts) = by (settled few parts) (group_of plan part key) refl
    where
      by : AllByRecursion IsSettled (groups_in plan parts key) → (group : Option AggState) → group_of plan part key ≡ group → AllByRecursion IsSettled (cons_option group (groups_in plan parts key))
      by rest None e = rest
      by rest (Some state) e = (subst IsSettled (sym (one_state part state e)) (settles plan (rows_of plan part key) few), rest)

  count_in_group : (i : ℕ) (rows : Table) (state : AggState) → group_of plan rows key ≡ Some state → count_at i state ≤ length rows
  count_in_group i rows state e =
      let here : count_at i state ≡ count_at i (state_of plan rows key) = ap (count_at i) (one_state rows state e) in
      omega (arith, here, count_few plan i (rows_of plan rows key), filter_few (λ row. is_kept plan row && bytes_eq (key_of plan row) key) rows)

  counts : (i : ℕ) (parts : List Table) → sum_by (count_at i) (groups_in plan parts key) ≤ length (all_rows parts)
  counts i [] = omega arith
  counts i (part ∷ parts) = by (counts i parts) (group_of plan part key) refl
    where
      by : sum_by (count_at i) (groups_in plan parts key) ≤ length (all_rows parts) → (group : Option AggState) → group_of plan part key ≡ group → sum_by (count_at i) (cons_option group (groups_in plan parts key)) ≤ length (part ++ all_rows parts)
      by rest None e = omega (arith, length-append part (all_rows parts))
      by rest (Some state) e = omega (arith, length-append part (all_rows parts), count_in_group i part state e, sum_by-cons (count_at i) state (groups_in plan parts key))

pub groups : GroupsCombine
groups plan width parts key states few accepted fits order =
    let here = groups_in plan parts key in
    any_order here states (All-from_recursion IsSettled here (settled plan key few parts)) (λ i. omega (arith, counts plan key i parts)) order
    ∙ sym (more-none here)
    ∙ in_order plan width key [] parts (All-nil (IsAccepted plan width)) accepted (omega arith)
