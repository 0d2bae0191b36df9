-- Layouts that fit each row of some items.
use Rattle.std.proofs.Common.{◌≡◌, ◌<◌, ◌≤◌, ◌+◌, ◌-◌, ◌&&◌, ◌∙◌, ℕ, ℤ, zero, suc, Bool, true, false, not, List, [], ◌∷◌, length, get_or, map, Option, Some, None, is_none, refl, ap, sym, arith, take}
use Rattle.std.proofs.lemmas.List.{length-map}
use Rattle.std.specs.List.{position_from, slice_get}
use Rattle.par_model.specs.Aggregate.{no_values}
use Rattle.par_model.specs.Number.{decimal_of}
use Rattle.par_model.specs.Record.{is_null}
use Rattle.par_model.specs.Refuse.{is_no_number, is_unreadable, reads_numbers}
use Rattle.par_model.specs.declared.plan.Item.{Item}
use Rattle.par_model.specs.declared.plan.ItemKind.{ItemKind}
use Rattle.par_model.specs.declared.plan.ItemKind.TheVariants as kind
use Rattle.partial_agg.specs.Items.{is_item_unreadable, item_value, items_state}
use Rattle.partial_agg.specs.Lanes.{lanes_of}
use Rattle.partial_agg.specs.State.{without_integers}
use Rattle.partial_agg.specs.Values.{counted, read, slot_of_value, value_by, value_of}
use Rattle.partial_agg.specs.declared.layout.Layout.{Layout}
use Rattle.partial_agg.proofs.Slots.{get_or-slots, length-slots}

-- the items of a row by their places
value_at-items : (row : List (List ℕ)) (items : List Item) (at : ℕ) → get_or (map (value_of row) items) at None ≡ item_value row (slice_get items at)
value_at-items row [] at = refl
value_at-items row (item ∷ items) zero = refl
value_at-items row (item ∷ items) (suc at) = value_at-items row items at

pub slot_at-items : (row : List (List ℕ)) (items : List Item) (at : ℕ) → slot_of_value (item_value row (slice_get items at)) ≡ get_or (items_state row items).slots at no_values
slot_at-items row items at =
    ap slot_of_value (sym (value_at-items row items at))
    ∙ sym (get_or-slots (map (value_of row) items) (8 - length (map (value_of row) items)) at)

pub length-items : (row : List (List ℕ)) (items : List Item) → length items ≤ 8 → length (items_state row items).slots ≡ 8
length-items row items few = length-slots (map (value_of row) items) (omega (arith, length-map items (value_of row), few))

pub all_readable : (row : List (List ℕ)) (items : List Item) (n : ℕ) → ((at : ℕ) → at < length items → is_item_unreadable row (slice_get items at) ≡ false) → position_from (is_unreadable row) n items ≡ None
all_readable row [] n each = refl
all_readable row (item ∷ items) n each = rw (each 0 (omega arith)) (all_readable row items (n + 1) (λ at lt. each (suc at) (omega arith)))

-- what aggregates of numbers take is the same
numbers_of : (k : ItemKind) (places : ℕ) (field : List ℕ) → reads_numbers k ≡ true → value_by k places field ≡ read places field
numbers_of kind.Rows places field e = cc
numbers_of kind.Count places field e = cc
numbers_of kind.Sum places field e = refl
numbers_of kind.Min places field e = refl
numbers_of kind.Max places field e = refl
numbers_of kind.Avg places field e = refl

pub alike : (k other : ItemKind) (places : ℕ) (field : List ℕ) → reads_numbers k ≡ true → reads_numbers other ≡ true
    → (value_by k places field ≡ value_by other places field) × ((reads_numbers k && is_no_number places field) ≡ (reads_numbers other && is_no_number places field))
alike k other places field e f = (numbers_of k places field e ∙ sym (numbers_of other places field f), ap (λ b. b && is_no_number places field) (e ∙ sym f))

-- and a count of the same column counts it
counts_read : (places : ℕ) (field : List ℕ) (b : Bool) (o : Option ℤ) → is_null field ≡ b → decimal_of places field ≡ o → (not b && is_none o) ≡ false
    → slot_of_value (counted field) ≡ without_integers (slot_of_value (read places field))
counts_read places field true o null int readable = rw null refl
counts_read places field false None null int readable = cc
counts_read places field false (Some n) null int readable = rw (null, int) refl

pub counts : (k : ItemKind) (places : ℕ) (field : List ℕ) → reads_numbers k ≡ true → (reads_numbers k && is_no_number places field) ≡ false → slot_of_value (counted field) ≡ without_integers (slot_of_value (value_by k places field))
counts k places field e readable =
    counts_read places field (is_null field) (decimal_of places field) refl refl (ap (λ b. b && is_no_number places field) (sym e) ∙ readable)
    ∙ ap (λ v. without_integers (slot_of_value v)) (sym (numbers_of k places field e))

-- the lanes of a row, by the values of the items at their places
each_slot : (row : List (List ℕ)) (items : List Item) (places : List ℕ)
    → map slot_of_value (map (λ (at : ℕ). item_value row (slice_get items at)) places) ≡ map (λ (at : ℕ). get_or (items_state row items).slots at no_values) places
each_slot row items [] = refl
each_slot row items (at ∷ places) = λ i. slot_at-items row items at i ∷ each_slot row items places i

pub lanes_read : (row : List (List ℕ)) (items : List Item) (layout : Layout) (places : List ℕ) (values : List (Option ℤ)) (width : ℕ) → places ≡ take layout.width layout.kept → width ≡ length places
    → take (length places) values ≡ map (λ (at : ℕ). item_value row (slice_get items at)) places → map slot_of_value (take width values) ≡ lanes_of layout (items_state row items).slots
lanes_read row items layout places values width kept many read =
    ap (λ (n : ℕ). map slot_of_value (take n values)) many
    ∙ ap (map slot_of_value) read
    ∙ each_slot row items places
    ∙ ap (map (λ (at : ℕ). get_or (items_state row items).slots at no_values)) kept

pub length-read : (row : List (List ℕ)) (items : List Item) (places : List ℕ) (values : List (Option ℤ)) (width : ℕ) → width ≡ length places
    → take (length places) values ≡ map (λ (at : ℕ). item_value row (slice_get items at)) places → length (take width values) ≡ width
length-read row items places values width many read =
    ap (λ (n : ℕ). length (take n values)) many ∙ ap (length {A = Option ℤ}) read ∙ length-map places (λ (at : ℕ). item_value row (slice_get items at)) ∙ sym many
