-- The slots that a file has of a state which a tuple tells are slots that rows can give.
use Rattle.std.proofs.Common.{◌≡◌, ◌==◌, ◌&&◌, ◌++◌, ◌-◌, ◌∙◌, ℕ, pos, Bool, true, false, List, [], ◌∷◌, None, Option, Some, ap, arith, length, map, refl, replicate, subst, sym}
use Rattle.std.proofs.lemmas.Bool.{cond_both, eqb-true, false≢true}
use Rattle.std.proofs.lemmas.Int.{fits_signed_from_abs, ints}
use Rattle.std.specs.Int.{w64}
use Rattle.std.specs.Option.{option_map_or}
use Rattle.par_model.specs.Aggregate.{no_values}
use Rattle.par_model.specs.declared.plan.Item.{Item}
use Rattle.par_model.specs.declared.state.SlotState.{SlotState}
use Rattle.partial_agg.specs.declared.groups.Group.{Group as MapGroup}
use Rattle.state_blocks.specs.Blocks.{IsTuple}
use Rattle.state_groups.specs.Group.{AreSlots}
use Rattle.state_groups.specs.Slot.{IsOfIntegers, IsSlot}
use Rattle.state_lanes.specs.Lanes.{first_of, has_numbers, is_of, is_same, item_slots, kinds_of, lane_of, lane_slots, slot_at, slot_in}
use Rattle.state_lanes.specs.declared.lanes.Lane.{Lane}
use Rattle.state_lanes.specs.declared.lanes.Lane.TheVariants.{Numbers, Values}
use Rattle.state_save.specs.Saving.{IsTold, tuple_of}
use Rattle.state_whole.specs.Adding.{IsShape}
use Rattle.state_whole.specs.declared.adding.Shape.{Shape}

-- lanes that are the same are one
and_split : (a b : Bool) → (a && b) ≡ true → (a ≡ true) × (b ≡ true)
and_split true b e = (refl, e)
and_split false b e = absurd (false≢true e)

same_one : (a b : Lane) → is_same a b ≡ true → a ≡ b
same_one (Values c) (Values d) e = ap Values (eqb-true c d e)
same_one (Values c) (Numbers d q) e = absurd (false≢true e)
same_one (Numbers c p) (Values d) e = absurd (false≢true e)
same_one (Numbers c p) (Numbers d q) e =
    let h = and_split (c == d) (p == q) e in
    ap (λ (n : ℕ). Numbers n p) (eqb-true c d h.0) ∙ ap (λ (n : ℕ). Numbers d n) (eqb-true p q h.1)

-- no values
none_are_integers : IsOfIntegers no_values
none_are_integers = record { sum = omega arith; least = fits_signed_from_abs w64 (pos 0) (omega arith); greatest = fits_signed_from_abs w64 (pos 0) (omega arith); order = omega (arith, ints) }

none_is_slot : (kind : Bool) (rows : ℕ) → IsSlot kind rows no_values
none_is_slot kind rows = record { count = omega arith; numbers = none_are_integers; plain = λ none. refl }

slot_at_is : (rows : ℕ) (lanes : List Lane) (slots : List SlotState) (lane : Lane) → AreSlots (kinds_of lanes) rows slots → IsSlot (has_numbers lane) rows (slot_at lanes slots lane)
slot_at_is rows [] slots lane are = none_is_slot (has_numbers lane) rows
slot_at_is rows (one ∷ lanes) [] lane are = none_is_slot (has_numbers lane) rows
slot_at_is rows (one ∷ lanes) (slot ∷ slots) lane are =
    cond_both (is_same one lane) slot (slot_at lanes slots lane) (IsSlot (has_numbers lane) rows) (λ e. subst (λ (l : Lane). IsSlot (has_numbers l) rows slot) (same_one one lane e) are.0) (λ e. slot_at_is rows lanes slots lane are.1)

slot_in_is : (rows : ℕ) (lanes : List Lane) (slots : List SlotState) (lane : Lane) (o : Option Lane) → AreSlots (kinds_of lanes) rows slots → option_map_or (λ one. is_same one lane) o false ≡ true
    → IsSlot (has_numbers lane) rows (option_map_or (slot_at lanes slots) o no_values)
slot_in_is rows lanes slots lane None are e = absurd (false≢true e)
slot_in_is rows lanes slots lane (Some one) are e = subst (λ (l : Lane). IsSlot (has_numbers l) rows (slot_at lanes slots one)) (same_one one lane e) (slot_at_is rows lanes slots one are)

first_is : (rows : ℕ) (lanes : List Lane) (slots pad : List SlotState) (items : List Item) (lane : Lane) → AreSlots (kinds_of lanes) rows slots → IsSlot (has_numbers lane) rows (first_of items (map (slot_in lanes slots) items ++ pad) lane)
first_is rows lanes slots pad [] lane are = none_is_slot (has_numbers lane) rows
first_is rows lanes slots pad (item ∷ items) lane are =
    cond_both (is_of lane item) (slot_in lanes slots item) (first_of items (map (slot_in lanes slots) items ++ pad) lane) (IsSlot (has_numbers lane) rows) (λ e. slot_in_is rows lanes slots lane (lane_of item) are e)
    (λ e. first_is rows lanes slots pad items lane are)

each_is : (rows : ℕ) (lanes : List Lane) (f : Lane → SlotState) → ((lane : Lane) → IsSlot (has_numbers lane) rows (f lane)) → AreSlots (kinds_of lanes) rows (map f lanes)
each_is rows [] f each = tt
each_is rows (lane ∷ lanes) f each = (each lane, each_is rows lanes f each)

back_are : (rows : ℕ) (lanes : List Lane) (slots : List SlotState) (items : List Item) → AreSlots (kinds_of lanes) rows slots → AreSlots (kinds_of lanes) rows (lane_slots lanes items (item_slots lanes slots items))
unfolding item_slots lane_slots
back_are rows lanes slots items are =
    each_is rows lanes (first_of items (map (slot_in lanes slots) items ++ replicate (8 - length items) no_values)) (λ lane. first_is rows lanes slots (replicate (8 - length items) no_values) items lane are)

-- a group of a map that a tuple tells has a tuple that rows can give
pub is_tuple : (shape : Shape) (g : MapGroup) → IsShape shape → IsTold shape g → IsTuple shape.columns shape.kinds.now (tuple_of shape g)
is_tuple shape g is told =
    let t = told.tuple in
    let tuple = told.is_tuple in
    let are : AreSlots (kinds_of shape.lanes.now) t.rows t.slots = subst (λ (ks : List Bool). AreSlots ks t.rows t.slots) is.kinds tuple.are_slots in
    let back = subst (λ (ks : List Bool). AreSlots ks t.rows (lane_slots shape.lanes.now shape.items.now (item_slots shape.lanes.now t.slots shape.items.now))) (sym is.kinds) (back_are t.rows shape.lanes.now t.slots shape.items.now are) in
    subst (λ (h : MapGroup). IsTuple shape.columns shape.kinds.now (tuple_of shape h)) (sym told.is) (record { is_key = tuple.is_key; some = tuple.some; few = tuple.few; are_slots = back })
