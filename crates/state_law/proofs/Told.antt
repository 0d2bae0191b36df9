-- The groups of rows are such as a file can have and a reader takes: a tuple tells each of them.
use Rattle.std.proofs.Common.{◌≡◌, ◌&&◌, ◌*◌, ◌<◌, ◌≤◌, ◌==◌, ◌^◌, ◌∙◌, ◌⊎◌, ◌≤ℤ◌, inl, inr, ℕ, ℤ, pos, Bool, true, false, List, [], ◌∷◌, All, FitsSigned, None, Option, Some, ap, arith, cond, get_or, length, map, refl, subst, sym, unsigned_abs}
use Rattle.std.specs.Prelude.{Contains, bytes_eq, fold, if◌then◌else◌, nat_lt, not}
use Rattle.std.specs.Int.{int_max, int_min, w64}
use Rattle.std.specs.List.{cons_option, filter_map}
use Rattle.std.specs.Str.Parse.{without_leading_sign}
use Rattle.std.proofs.lemmas.Bool.Decides.{nat_tests}
use Rattle.std.proofs.lemmas.Int.{fits_signed_from_abs, fold-int_max_bounds, fold-int_max_reached, fold-int_min_bounds, fold-int_min_reached, ints}
use Rattle.std.proofs.lemmas.List.{length-map, nil_from_length}
use Rattle.std.proofs.lemmas.List.Elements.{All-cons, All-contains, All-head, All-nil, All-tail}
use Rattle.std.proofs.lemmas.List.Filters.{length-filter_both}
use Rattle.par_model.specs.Aggregate.{greatest, least, no_values, number_slot, rows_of, state_of_rows, total, values_of}
use Rattle.par_model.specs.Keep.{is_kept}
use Rattle.par_model.specs.Key.{columns_of, key_of}
use Rattle.par_model.specs.Number.{decimal_of, fits_64_bits, is_numeral, number_of, units_of, without_spaces}
use Rattle.par_model.specs.Plan.{Plan}
use Rattle.par_model.specs.Record.{field_of}
use Rattle.par_model.specs.declared.plan.Item.{Item}
use Rattle.par_model.specs.declared.state.AggState.{AggState}
use Rattle.par_model.specs.declared.state.SlotState.{SlotState}
use Rattle.partial_agg.specs.Groups.{group_of}
use Rattle.partial_agg.specs.Listed.{listed}
use Rattle.partial_agg.specs.declared.groups.Group.{Group as MapGroup}
use Rattle.partial_agg.proofs.Fits.{IsWithin, numbers_within, values_few}
use Rattle.result_text.proofs.Occurring.{occurs, state_is}
use Rattle.result_text.proofs.Uses.{All-listed}
use Rattle.row_blocks.specs.Blocks.{Table}
use Rattle.state_groups.specs.Group.{AreSlots}
use Rattle.state_groups.specs.Slot.{IsSlot}
use Rattle.state_lanes.specs.Lanes.{has_numbers, kinds_of, lane_slots, lanes_of}
use Rattle.state_lanes.specs.Rows.{LanesComeBack, RowsAreTold, slot_over}
use Rattle.state_lanes.specs.declared.lanes.Lane.{Lane}
use Rattle.state_lanes.specs.declared.lanes.Lane.TheVariants.{Numbers, Values}
use Rattle.state_save.specs.Saving.{IsTold, tuple_of}
use Rattle.state_whole.specs.Adding.{IsShapeOf}
use Rattle.state_whole.specs.declared.adding.Shape.{Shape}
use Rattle.state_law.specs.Told.{GroupsAreTold}
use Rattle.state_law.proofs.Groups.{group_back, short_keys}

-- ---- numbers of 64 bits

abbrev IsLong : ℤ → Type 0
IsLong z = FitsSigned w64 z

chosen_number : (a b : Bool) (z n : ℤ) → (if a && b then Some z else None) ≡ Some n → (b ≡ true) × (z ≡ n)
chosen_number true true z n e = (refl, cc)
chosen_number true false z n e = cc
chosen_number false b z n e = cc

fits_long : (z : ℤ) → fits_64_bits z ≡ true → IsLong z
fits_long z e = grind (arith, ints)

number_long : (places : ℕ) (field : List ℕ) (n : ℤ) → decimal_of places field ≡ Some n → IsLong n
unfolding number_of
number_long places field n e =
    let text = without_spaces field in
    let both = chosen_number (is_numeral places (without_leading_sign text)) (fits_64_bits (units_of places text)) (units_of places text) n e in
    subst IsLong both.1 (fits_long (units_of places text) both.0)

numbers_long : (places : ℕ) (fields : List (List ℕ)) → All IsLong (filter_map (decimal_of places) fields)
numbers_long places [] = All-nil IsLong
numbers_long places (f ∷ fields) = go (decimal_of places f) (λ n is. number_long places f n is) (filter_map (decimal_of places) fields) (numbers_long places fields)
  where
    go : (o : Option ℤ) → ((n : ℤ) → o ≡ Some n → IsLong n) → (ns : List ℤ) → All IsLong ns → All IsLong (cons_option o ns)
    go None each ns rest = rest
    go (Some n) each ns rest = All-cons IsLong n ns (each n refl) rest

none_long : IsLong (pos 0)
none_long = fits_signed_from_abs w64 (pos 0) (omega arith)

one_of_long : (a r : ℤ) (ns : List ℤ) → IsLong a → All IsLong ns → (r ≡ a) ⊎ Contains ns r → IsLong r
one_of_long a r ns one all (inl is) = subst IsLong (sym is) one
one_of_long a r ns one all (inr is) = All-contains IsLong ns r all is

least_long : (ns : List ℤ) → All IsLong ns → IsLong (least ns)
least_long [] all = none_long
least_long (n ∷ ns) all = one_of_long n (fold int_min n ns) ns (All-head IsLong n ns all) (All-tail IsLong n ns all) (fold-int_min_reached n ns (fold int_min n ns) refl)

greatest_long : (ns : List ℤ) → All IsLong ns → IsLong (greatest ns)
greatest_long [] all = none_long
greatest_long (n ∷ ns) all = one_of_long n (fold int_max n ns) ns (All-head IsLong n ns all) (All-tail IsLong n ns all) (fold-int_max_reached n ns (fold int_max n ns) refl)

in_order : (ns : List ℤ) → least ns ≤ℤ greatest ns
in_order [] = omega (arith, ints)
in_order (n ∷ ns) =
    let low = (fold-int_min_bounds n ns (fold int_min n ns) refl).0 in
    let high = (fold-int_max_bounds n ns (fold int_max n ns) refl).0 in
    between (fold int_min n ns) n (fold int_max n ns) low high
  where
    between : (a b c : ℤ) → a ≤ℤ b → b ≤ℤ c → a ≤ℤ c
    between a b c p q = omega (arith, ints)

-- ---- the slot of a lane

size_within : (n : ℕ) (z : ℤ) → IsWithin n z → unsigned_abs z ≤ 2 ^ 63 * n
size_within n z w = omega (arith, ints, w.low, w.high)

no_count : (n : ℕ) → nat_lt 0 n ≡ false → n ≡ 0
no_count n e = grind (arith, nat_tests)

slot_is : (rows : Table) (lane : Lane) → IsSlot (has_numbers lane) (length rows) (slot_over rows lane)
slot_is rows (Values column) = record {
  count = values_few column rows;
  numbers = record { sum = omega arith; least = none_long; greatest = none_long; order = omega (arith, ints) };
  plain = λ none. refl;
}
slot_is rows (Numbers column places) =
    let values = values_of column rows in
    let numbers = filter_map (decimal_of places) values in
    let all = numbers_long places values in
    record {
      count = values_few column rows;
      numbers = record { sum = size_within (length values) (total numbers) (numbers_within places values); least = least_long numbers all; greatest = greatest_long numbers all; order = in_order numbers };
      plain = λ none. plain values (nil_from_length values (no_count (length values) none));
    }
  where
    slot_of_values : List (List ℕ) → SlotState
    slot_of_values vs = number_slot vs (filter_map (decimal_of places) vs)

    plain : (vs : List (List ℕ)) → vs ≡ [] → slot_of_values vs ≡ record no_values { count = length vs }
    plain vs none = ap slot_of_values none ∙ ap (λ (l : List (List ℕ)). record no_values { count = length l }) (sym none)

slots_are : (rows : Table) (lanes : List Lane) → AreSlots (kinds_of lanes) (length rows) (map (slot_over rows) lanes)
slots_are rows [] = tt
slots_are rows (lane ∷ lanes) = (slot_is rows lane, slots_are rows lanes)

-- ---- a group

some_rows : (rows : Table) (s t : AggState) → cond (length rows == 0) None (Some s) ≡ Some t → 0 < length rows
some_rows [] s t e = cc
some_rows (row ∷ rows) s t e = omega arith

rows_are : (plan : Plan) (rows : Table) → (state_of_rows plan rows).rows ≡ length rows
unfolding state_of_rows
rows_are plan rows = refl

module _ (plan : Plan) (shape : Shape) (of : IsShapeOf plan shape) (told : RowsAreTold) (back : LanesComeBack) where
  lanes_over : (rows : Table) → lane_slots shape.lanes.now shape.items.now (state_of_rows plan rows).slots ≡ map (slot_over rows) (lanes_of plan.items)
  lanes_over rows =
      let lanes = lanes_of plan.items in
      let slots = map (slot_over rows) lanes in
      let all = (state_of_rows plan rows).slots in
      let base : lane_slots lanes plan.items all ≡ slots = ap (λ (ss : List SlotState). lane_slots lanes plan.items ss) (told plan rows) ∙ back plan.items slots (length-map lanes (slot_over rows)) in
      let by_items = subst (λ (is : List Item). lane_slots lanes is all ≡ slots) (sym of.items) base in
      subst (λ (ls : List Lane). lane_slots ls shape.items.now all ≡ slots) (sym of.lanes) by_items

  one_told : (rows : Table) (g : MapGroup) → length rows ≤ 2 ^ 50 → group_of plan rows g.key ≡ Some g.state → length g.key ≤ 248 → IsTold shape g
  one_told rows g few is short =
      let mine = rows_of plan rows g.key in
      let state : g.state ≡ state_of_rows plan mine = state_is plan rows g.key g.state is in
      let many : g.state.rows ≡ length mine = ap (λ (s : AggState). s.rows) state ∙ rows_are plan mine in
      let row = occurs plan rows g.key g.state is in
      let some = some_rows mine (state_of_rows plan mine) g.state is in
      let size = within rows g.key in
      let slots = slots_are mine (lanes_of plan.items) in
      let by_lanes = subst (λ (ss : List SlotState). AreSlots (kinds_of (lanes_of plan.items)) (length mine) ss) (sym (lanes_over mine)) slots in
      let by_rows = subst (λ (n : ℕ). AreSlots (kinds_of (lanes_of plan.items)) n (lane_slots shape.lanes.now shape.items.now (state_of_rows plan mine).slots)) (sym (rows_are plan mine)) by_lanes in
      let by_state = subst (λ (s : AggState). AreSlots (kinds_of (lanes_of plan.items)) s.rows (lane_slots shape.lanes.now shape.items.now s.slots)) (sym state) by_rows in
      record {
        tuple = tuple_of shape g;
        is_tuple = record {
          is_key = record { fields = columns_of plan row.0; many = length-map plan.groups (field_of row.0) ∙ sym of.columns; is = sym row.2; short = short };
          some = omega (arith, some, many);
          few = omega (arith, few, many, size);
          are_slots = subst (λ (ks : List Bool). AreSlots ks g.state.rows (lane_slots shape.lanes.now shape.items.now g.state.slots)) (sym of.kinds) by_state;
        };
        is = sym (group_back plan shape of told back g mine state);
      }
    where
      within : (rows : Table) (key : List ℕ) → length (rows_of plan rows key) ≤ length rows
      within rows key =
          let has : List (List ℕ) → Bool = λ row. is_kept plan row && bytes_eq (key_of plan row) key in
          omega (arith, length-filter_both has (λ (row : List (List ℕ)). not (has row)) (λ row. refl) rows)

pub groups_are_told : RowsAreTold → LanesComeBack → GroupsAreTold
groups_are_told told back plan width shape rows groups of accepted few are = λ k d lt.
    one_told plan shape of told back rows (get_or (listed groups) k d) few (All-listed plan rows groups are k d lt) (short_keys plan width rows groups accepted are k d lt)
