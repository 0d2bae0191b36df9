-- The slots of a state and those of its lanes tell one another.
use Rattle.std.proofs.Common.{◌≡◌, ◌-◌, ◌||◌, ◌++◌, ◌∙◌, ◌⊎◌, inl, inr, ℕ, zero, suc, Bool, true, false, List, [], ◌∷◌, None, Option, Some, ap, arith, length, map, refl, replicate, sym}
use Rattle.std.proofs.lemmas.Bool.{cond-true, cond-false, false≢true}
use Rattle.std.specs.Option.{option_map_or}
use Rattle.par_model.specs.Aggregate.{no_values, slot_by, slot_of, state_of_rows, values_of}
use Rattle.par_model.specs.Plan.{Plan}
use Rattle.par_model.specs.declared.plan.Item.{Item}
use Rattle.par_model.specs.declared.plan.ItemKind.{ItemKind}
use Rattle.par_model.specs.declared.plan.ItemKind.TheVariants as kind
use Rattle.par_model.specs.declared.state.SlotState.{SlotState}
use Rattle.state_lanes.specs.Lanes.{first_of, has_lane, is_of, is_same, item_slots, lane_by, lane_of, lane_slots, lanes_of, slot_at, slot_in}
use Rattle.state_lanes.specs.Rows.{LanesComeBack, RowsAreTold, slot_over}
use Rattle.state_lanes.specs.declared.lanes.Lane.{Lane}
use Rattle.state_lanes.specs.declared.lanes.Lane.TheVariants.{Numbers, Values}
use Rattle.state_lanes.proofs.Among.{AreAmong, AreApart, IsAmong, all_among, all_apart, came, has_item, is_by, lanes_after, or_left, or_right, or_second, same_one, same_refl}

-- each lane has its own slot
at_own : (f : Lane → SlotState) (lanes : List Lane) (lane : Lane) → has_lane lanes lane ≡ true → slot_at lanes (map f lanes) lane ≡ f lane
at_own f [] lane e = absurd (false≢true e)
at_own f (one ∷ lanes) lane e = go (is_same one lane) refl (at_own f lanes lane)
  where
    go : (t : Bool) → is_same one lane ≡ t → (has_lane lanes lane ≡ true → slot_at lanes (map f lanes) lane ≡ f lane) → slot_at (one ∷ lanes) (map f (one ∷ lanes)) lane ≡ f lane
    go true h later = cond-true (is_same one lane) (f one) (slot_at lanes (map f lanes) lane) h ∙ ap f (same_one one lane h)
    go false h later = cond-false (is_same one lane) (f one) (slot_at lanes (map f lanes) lane) h ∙ later (or_second (is_same one lane) (has_lane lanes lane) e h)

by_kind : (rows : List (List (List ℕ))) (lanes : List Lane) (k : ItemKind) (column places : ℕ) → IsAmong lanes (lane_by k column places)
    → option_map_or (slot_at lanes (map (slot_over rows) lanes)) (lane_by k column places) no_values ≡ slot_by k places (values_of column rows)
by_kind rows lanes kind.Rows column places is = refl
by_kind rows lanes kind.Count column places is = at_own (slot_over rows) lanes (Values column) is
by_kind rows lanes kind.Sum column places is = at_own (slot_over rows) lanes (Numbers column places) is
by_kind rows lanes kind.Min column places is = at_own (slot_over rows) lanes (Numbers column places) is
by_kind rows lanes kind.Max column places is = at_own (slot_over rows) lanes (Numbers column places) is
by_kind rows lanes kind.Avg column places is = at_own (slot_over rows) lanes (Numbers column places) is

told : (rows : List (List (List ℕ))) (lanes : List Lane) (items : List Item) → AreAmong lanes items → map (slot_in lanes (map (slot_over rows) lanes)) items ≡ map (slot_of rows) items
told rows lanes [] are = refl
told rows lanes (item ∷ items) are =
    ap (λ (s : SlotState). s ∷ map (slot_in lanes (map (slot_over rows) lanes)) items) (by_kind rows lanes item.kind item.column item.places are.0)
    ∙ ap (λ (ss : List SlotState). slot_of rows item ∷ ss) (told rows lanes items are.1)

pub rows_told : RowsAreTold
unfolding item_slots lanes_of state_of_rows
rows_told plan rows = ap (λ (ss : List SlotState). ss ++ replicate (8 - length plan.items) no_values) (sym (told rows (lanes_of plan.items) plan.items (all_among plan.items [])))

map_same : (lanes : List Lane) (f g : Lane → SlotState) → ((lane : Lane) → has_lane lanes lane ≡ true → f lane ≡ g lane) → map f lanes ≡ map g lanes
map_same [] f g h = refl
map_same (one ∷ lanes) f g h =
    ap (λ (s : SlotState). s ∷ map f lanes) (h one (or_left (is_same one one) (has_lane lanes one) (same_refl one)))
    ∙ ap (λ (ss : List SlotState). g one ∷ ss) (map_same lanes f g (λ lane e. h lane (or_right (is_same one lane) (has_lane lanes lane) e)))

own : (lanes : List Lane) (slots : List SlotState) → length slots ≡ length lanes → AreApart lanes → map (slot_at lanes slots) lanes ≡ slots
own [] [] e apart = refl
own [] (s ∷ slots) e apart = absurd (omega (arith, e))
own (one ∷ lanes) [] e apart = absurd (omega (arith, e))
own (one ∷ lanes) (s ∷ slots) e apart =
    ap (λ (t : SlotState). t ∷ map (slot_at (one ∷ lanes) (s ∷ slots)) lanes) (cond-true (is_same one one) s (slot_at lanes slots one) (same_refl one))
    ∙ ap (λ (ss : List SlotState). s ∷ ss) (map_same lanes (slot_at (one ∷ lanes) (s ∷ slots)) (slot_at lanes slots) other ∙ own lanes slots (omega (arith, e)) apart.1)
  where
    differs : (lane : Lane) → has_lane lanes lane ≡ true → (t : Bool) → is_same one lane ≡ t → is_same one lane ≡ false
    differs lane h false f = f
    differs lane h true f = absurd (false≢true (sym apart.0 ∙ ap (λ (l : Lane). has_lane lanes l) (same_one one lane f) ∙ h))

    other : (lane : Lane) → has_lane lanes lane ≡ true → slot_at (one ∷ lanes) (s ∷ slots) lane ≡ slot_at lanes slots lane
    other lane h = cond-false (is_same one lane) s (slot_at lanes slots lane) (differs lane h (is_same one lane) refl)

-- the first aggregate that reads a lane has its slot
first_found : (lanes : List Lane) (slots pad : List SlotState) (items : List Item) (lane : Lane) → has_item items lane ≡ true → first_of items (map (slot_in lanes slots) items ++ pad) lane ≡ slot_at lanes slots lane
first_found lanes slots pad [] lane e = absurd (false≢true e)
first_found lanes slots pad (item ∷ items) lane e = go (is_by lane (lane_of item)) refl (first_found lanes slots pad items lane)
  where
    by : (o : Option Lane) → is_by lane o ≡ true → option_map_or (slot_at lanes slots) o no_values ≡ slot_at lanes slots lane
    by None h = absurd (false≢true h)
    by (Some one) h = ap (slot_at lanes slots) (same_one one lane h)

    is_it : (o : Option Lane) → option_map_or (λ one. is_same one lane) o false ≡ is_by lane o
    is_it None = refl
    is_it (Some one) = refl

    go : (t : Bool) → is_by lane (lane_of item) ≡ t → (has_item items lane ≡ true → first_of items (map (slot_in lanes slots) items ++ pad) lane ≡ slot_at lanes slots lane) → first_of (item ∷ items) (map (slot_in lanes slots) (item ∷ items) ++ pad) lane ≡ slot_at lanes slots lane
    go true h later = cond-true (is_of lane item) (slot_in lanes slots item) (first_of items (map (slot_in lanes slots) items ++ pad) lane) (is_it (lane_of item) ∙ h) ∙ by (lane_of item) h
    go false h later = cond-false (is_of lane item) (slot_in lanes slots item) (first_of items (map (slot_in lanes slots) items ++ pad) lane) (is_it (lane_of item) ∙ h)
        ∙ later (or_second (is_by lane (lane_of item)) (has_item items lane) e h)

back : (items : List Item) (slots pad : List SlotState) → length slots ≡ length (lanes_after [] items) → map (first_of items (map (slot_in (lanes_after [] items) slots) items ++ pad)) (lanes_after [] items) ≡ slots
back items slots pad many =
    map_same (lanes_after [] items) (first_of items (map (slot_in (lanes_after [] items) slots) items ++ pad)) (slot_at (lanes_after [] items) slots)
    (λ lane h. first_found (lanes_after [] items) slots pad items lane (found lane (came items [] lane h)))
    ∙ own (lanes_after [] items) slots many (all_apart items [] tt)
  where
    found : (lane : Lane) → (false ≡ true) ⊎ (has_item items lane ≡ true) → has_item items lane ≡ true
    found lane (inl h) = absurd (false≢true h)
    found lane (inr h) = h

pub come_back : LanesComeBack
unfolding item_slots lane_slots lanes_of
come_back items slots many = back items slots (replicate (8 - length items) no_values) many
