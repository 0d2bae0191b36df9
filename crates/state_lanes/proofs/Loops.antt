-- Loops over lanes, aggregates and slots: what is left from a place on.
use Rattle.std.proofs.Common.{◌≡◌, ◌<◌, ◌≤◌, ◌-◌, ◌+◌, ◌||◌, ◌++◌, ◌∙◌, ℕ, suc, Bool, List, [], ◌∷◌, ap, arith, cond, drop, get_or, length, map, replicate, refl, set, sym, take}
use Rattle.std.proofs.Math.Seq.{drop-cons}
use Rattle.std.proofs.lemmas.List.{drop-replicate, drop-set-lt, map_more, take_more_set}
use Rattle.par_model.specs.Aggregate.{no_values}
use Rattle.par_model.specs.declared.plan.Item.{Item}
use Rattle.par_model.specs.declared.state.SlotState.{SlotState}
use Rattle.state_lanes.specs.Lanes.{first_of, has_lane, is_of, is_same, slot_at}
use Rattle.state_lanes.specs.declared.lanes.Lane.{Lane}

drop_at : {A : Type 0} (xs : List A) (at : ℕ) (d : A) → at < length xs → drop at xs ≡ get_or xs at d ∷ drop (at + 1) xs
drop_at xs at d h =
    let one : suc at ≡ at + 1 = omega arith in
    drop-cons xs at d h ∙ ap (λ (n : ℕ). get_or xs at d ∷ drop n xs) one

pub has_at : (lanes : List Lane) (at : ℕ) (d lane : Lane) → at < length lanes → has_lane (drop at lanes) lane ≡ (is_same (get_or lanes at d) lane || has_lane (drop (at + 1) lanes) lane)
has_at lanes at d lane h = ap (λ (ls : List Lane). has_lane ls lane) (drop_at lanes at d h)

pub slot_at_at : (lanes : List Lane) (slots : List SlotState) (at : ℕ) (d lane : Lane) → at < length lanes → length lanes ≤ length slots
    → slot_at (drop at lanes) (drop at slots) lane ≡ cond (is_same (get_or lanes at d) lane) (get_or slots at no_values) (slot_at (drop (at + 1) lanes) (drop (at + 1) slots) lane)
slot_at_at lanes slots at d lane h room =
    ap (λ (ls : List Lane). slot_at ls (drop at slots) lane) (drop_at lanes at d h)
    ∙ ap (λ (ss : List SlotState). slot_at (get_or lanes at d ∷ drop (at + 1) lanes) ss lane) (drop_at slots at no_values (omega (arith, h, room)))

pub first_of_at : (items : List Item) (slots : List SlotState) (at : ℕ) (d : Item) (lane : Lane) → at < length items → length items ≤ length slots
    → first_of (drop at items) (drop at slots) lane ≡ cond (is_of lane (get_or items at d)) (get_or slots at no_values) (first_of (drop (at + 1) items) (drop (at + 1) slots) lane)
first_of_at items slots at d lane h room =
    ap (λ (is : List Item). first_of is (drop at slots) lane) (drop_at items at d h)
    ∙ ap (λ (ss : List SlotState). first_of (get_or items at d ∷ drop (at + 1) items) ss lane) (drop_at slots at no_values (omega (arith, h, room)))

-- one more slot is put at its place
pub put_more : {A : Type 0} (f : A → SlotState) (xs : List A) (found : List SlotState) (at : ℕ) (d : A) → at < length xs → at < length found → take at found ≡ map f (take at xs)
    → take (at + 1) (set found at (f (get_or xs at d))) ≡ map f (take (at + 1) xs)
put_more f xs found at d h k e = take_more_set found at (f (get_or xs at d)) k ∙ ap (λ (ss : List SlotState). ss ++ f (get_or xs at d) ∷ []) e ∙ sym (map_more f xs at d h)

pub left_more : (found : List SlotState) (at : ℕ) (x : SlotState) → at < 8 → at < length found → drop at found ≡ replicate (8 - at) no_values → drop (at + 1) (set found at x) ≡ replicate (8 - (at + 1)) no_values
left_more found at x h k e =
    let one : 8 - at - 1 ≡ 8 - (at + 1) = omega arith in
    drop-set-lt (at + 1) found at x (omega arith) ∙ ap (drop 1) (sym (drop_at found at no_values k) ∙ e) ∙ drop-replicate 1 (8 - at) no_values ∙ ap (λ (n : ℕ). replicate n no_values) one
