-- A descriptor reads back as the plan that was written: its words are allowed, and no two plans have the same.
use Rattle.std.proofs.Common.{◌≡◌, ◌<◌, ◌≤◌, ◌+◌, ◌*◌, ◌^◌, ◌∙◌, ◌&&◌, ◌==◌, ℕ, true, false, Bool, All, List, None, ap, arith, if◌then◌else◌, inl, inr, length, nat_le, nat_lt, not, refl, sym}
use Rattle.std.proofs.lemmas.Bool.{cases_lt}
use Rattle.std.proofs.lemmas.Bool.Decides.{nat_tests}
use Rattle.std.proofs.lemmas.List.{ext_get_or, get_or_past}
use Rattle.std.proofs.lemmas.List.FromFn.{get_or-map-range_with_len, length-map-range_with_len}
use Rattle.std.specs.Prelude.{slice_index, slice_index_or}
use Rattle.par_model.specs.Plan.{Plan}
use Rattle.par_model.specs.PlanLayout.{unused}
use Rattle.par_model.specs.declared.plan.Item.{Item}
use Rattle.par_model.specs.declared.plan.ItemKind.{ItemKind}
use Rattle.par_model.specs.declared.plan.ItemKind.TheVariants as kind
use Rattle.par_model.specs.declared.plan.TheConstants.{MOST_PLACES}
use Rattle.plan_descriptor.proofs.Allowed.{none_bad}
use Rattle.plan_descriptor.proofs.Columns.{placed_column, placed_nothing}
use Rattle.plan_descriptor.proofs.Filters.{filter_allowed, plain_is, same_filter}
use Rattle.plan_descriptor.proofs.ReadPlans.{same_item}
use Rattle.plan_descriptor.proofs.Sections.{allowed_filter, allowed_group, allowed_head, allowed_item, by_four, by_section, by_two, word_of_filter, word_of_group, word_of_head, word_of_item}
use Rattle.plan_descriptor.specs.Descriptor.{IsDescriptor, IsWritable, bad_word, column_word, filter_of, head_word, is_allowed, is_column, is_head, is_item, is_placed, item_word, kind_word, plain_filters, plan_word, plan_words, size_of}

-- the words of a plan, place by place
pub record IsWords (words : List ℕ) (version : ℕ) (plan : Plan) : Type 0 where
  pub size : length words ≡ size_of version
  pub each : (k : ℕ) → k < size_of version → slice_index words k ≡ plan_word version plan k

pub words_of : (words : List ℕ) (version : ℕ) (plan : Plan) → words ≡ plan_words version plan → IsWords words version plan
unfolding plan_words
words_of words version plan is = record {
  size = ap length is ∙ length-map-range_with_len (plan_word version plan) 0 (size_of version);
  each = λ k h. ap (λ l. slice_index l k) is ∙ get_or-map-range_with_len (plan_word version plan) 0 (size_of version) k k 0 h (omega arith);
}

below : (a b : ℕ) → a < b → nat_lt a b ≡ true
below a b h = grind (arith, nat_tests)

past : (a b : ℕ) → b ≤ a → nat_lt a b ≡ false
past a b h = grind (arith, nat_tests)

at_most : (a b : ℕ) → a ≤ b → nat_le a b ≡ true
at_most a b h = grind (arith, nat_tests)

some_items : (n : ℕ) → 1 ≤ n → n ≤ 8 → (nat_le 1 n && nat_le n 8) ≡ true
some_items n some few = rw (at_most 1 n some, at_most n 8 few) refl

abbrev bit : Bool → ℕ
bit b = if b then 1 else 0

one_bit : (b : Bool) → nat_le (bit b) 1 ≡ true
one_bit true = refl
one_bit false = refl

same_bit : (a b : Bool) → bit a ≡ bit b → a ≡ b
same_bit true true e = refl
same_bit true false e = absurd (omega arith)
same_bit false true e = absurd (omega arith)
same_bit false false e = refl

group_column : (columns : List ℕ) (i : ℕ) → All (λ column. column < 2 ^ 32) columns → is_column (nat_lt i (length columns)) (slice_index columns i) ≡ true
group_column columns i fits = elim (cases_lt i (length columns)) [
  | inl h ↦ rw (below i (length columns) h) (below (slice_index columns i) (2 ^ 32) (fits i 0 h))
  | inr h ↦ rw (past i (length columns) h, get_or_past columns i 0 h) refl
]

a_kind : (k : ItemKind) → nat_le (kind_word k) 5 ≡ true
a_kind kind.Rows = refl
a_kind kind.Count = refl
a_kind kind.Sum = refl
a_kind kind.Min = refl
a_kind kind.Max = refl
a_kind kind.Avg = refl

item_kind : (items : List Item) (i : ℕ) → (if nat_lt i (length items) then nat_le (kind_word (slice_index_or items i unused).kind) 5 else kind_word (slice_index_or items i unused).kind == 0) ≡ true
item_kind items i = elim (cases_lt i (length items)) [
  | inl h ↦ rw (below i (length items) h) (a_kind (slice_index_or items i unused).kind)
  | inr h ↦ rw (past i (length items) h, get_or_past items i unused h) refl
]

column_of_kind : (words : List ℕ) (item : Item) (k : ItemKind) → item.kind ≡ k → is_placed words true (column_word item.column item.places) ≡ true
    → (item.kind ≡ kind.Rows → (item.column ≡ 0) × (item.places ≡ 0)) → is_placed words (not (kind_word k == 0)) (column_word item.column item.places) ≡ true
column_of_kind words item kind.Rows is placed none = rw ((none is).0, (none is).1) (placed_nothing words)
column_of_kind words item kind.Count is placed none = placed
column_of_kind words item kind.Sum is placed none = placed
column_of_kind words item kind.Min is placed none = placed
column_of_kind words item kind.Max is placed none = placed
column_of_kind words item kind.Avg is placed none = placed

item_column : (words : List ℕ) (items : List Item) (i : ℕ) → All (λ item. item.column < 2 ^ 32) items → All (λ item. item.places ≤ MOST_PLACES) items → (slice_index words 0 ≡ 1 → All (λ item. item.places ≡ 0) items)
    → All (λ item. item.kind ≡ kind.Rows → (item.column ≡ 0) × (item.places ≡ 0)) items
    → is_placed words (nat_lt i (length items) && not (kind_word (slice_index_or items i unused).kind == 0)) (column_word (slice_index_or items i unused).column (slice_index_or items i unused).places) ≡ true
item_column words items i fits few old none = elim (cases_lt i (length items)) [
  | inl h ↦
      let item = slice_index_or items i unused in
      rw (below i (length items) h) (column_of_kind words item item.kind refl (placed_column words item.column item.places (fits i unused h) (few i unused h) (λ one. old one i unused h)) (none i unused h))
  | inr h ↦ rw (past i (length items) h, get_or_past items i unused h) (placed_nothing words)
]

-- only version 2 has a filter
newer : (version k : ℕ) → 28 + k < size_of version → version ≡ 1 → ⊥
newer version k within one =
    let short = rw one at within in
    omega (arith, short)

module _ (words : List ℕ) (version : ℕ) (plan : Plan) (is : IsWords words version plan) (can : IsWritable plan) (long : 28 ≤ size_of version) where
  group_is : (i : ℕ) → i < 8 → slice_index words (4 + i) ≡ slice_index plan.groups i
  group_is i h = is.each (4 + i) (omega arith) ∙ word_of_group version plan i h

  item_is : (i k : ℕ) → i < 8 → k < 2 → slice_index words (12 + 2 * i + k) ≡ item_word (slice_index_or plan.items i unused) k
  item_is i k h low = is.each (12 + 2 * i + k) (omega arith) ∙ word_of_item version plan i k h low

  kind_is : (i : ℕ) → i < 8 → slice_index words (12 + 2 * i) ≡ kind_word (slice_index_or plan.items i unused).kind
  kind_is i h = let same : 12 + 2 * i + 0 ≡ 12 + 2 * i = omega arith in rw same at (item_is i 0 h (omega arith))

  groups_are : slice_index words 1 ≡ length plan.groups
  groups_are = is.each 1 (omega arith)

  items_are : slice_index words 2 ≡ length plan.items
  items_are = is.each 2 (omega arith)

  version_is : slice_index words 0 ≡ version
  version_is = is.each 0 (omega arith)

  item_allowed : (version ≡ 1 → All (λ item. item.places ≡ 0) plan.items) → (i : ℕ) → i < 8 → (k : ℕ) → k < 2 → is_item words i k (item_word (slice_index_or plan.items i unused) k) ≡ true
  item_allowed old i h = by_two (λ k. is_item words i k (item_word (slice_index_or plan.items i unused) k) ≡ true)
      (rw items_are (item_kind plan.items i)) (rw (items_are, kind_is i h) (item_column words plan.items i can.item_columns can.room.item_places (λ one. old (sym version_is ∙ one)) can.room.no_column))

  written_allowed : (version ≡ 1 → All (λ item. item.places ≡ 0) plan.items) → is_head 0 version ≡ true → (k : ℕ) → k < 32 → k < size_of version → is_allowed words k ≡ true
  written_allowed old head = by_section (λ k. k < size_of version → is_allowed words k ≡ true)
      (λ k h within. rw (allowed_head words k h, is.each k within, word_of_head version plan k h)
      (by_four (λ k. is_head k (head_word version plan k) ≡ true) head (at_most (length plan.groups) 8 can.room.groups) (some_items (length plan.items) can.room.some_item can.room.items) (one_bit plan.hash) k h))
      (λ i h within. rw (allowed_group words i h, groups_are, group_is i h) (group_column plan.groups i can.group_columns))
      (λ i k h low within. rw (allowed_item words i k h low, item_is i k h low) (item_allowed old i h k low))
      (λ k h within.
      let relation = is.each 28 (omega arith) ∙ word_of_filter version plan 0 in
      rw (allowed_filter words k, is.each (28 + k) within, word_of_filter version plan k) (filter_allowed words (filter_of plan) can.filter can.room.filter_places (λ one. newer version k within (sym version_is ∙ one)) relation k h))

  pub none_bad_written : (version ≡ 1 → All (λ item. item.places ≡ 0) plan.items) → is_head 0 version ≡ true → size_of version ≤ 32 → bad_word words ≡ None
  none_bad_written old head few = none_bad words (λ k h. written_allowed old head k (omega (arith, is.size)) (omega (arith, is.size)))

-- two plans with the same words
module _ (words : List ℕ) (version : ℕ) (a b : Plan) (is : IsWords words version a) (is' : IsWords words version b) (can : IsWritable a) (can' : IsWritable b) (long : 28 ≤ size_of version) where
  same_groups : a.groups ≡ b.groups
  same_groups =
      let size : length a.groups ≡ length b.groups = sym (groups_are words version a is can long) ∙ groups_are words version b is' can' long in
      ext_get_or 0 a.groups b.groups size (λ i h.
      let within : i < 8 = omega (arith, can.room.groups) in
      sym (group_is words version a is can long i within) ∙ group_is words version b is' can' long i within)

  same_items : a.items ≡ b.items
  same_items =
      let size : length a.items ≡ length b.items = sym (items_are words version a is can long) ∙ items_are words version b is' can' long in
      ext_get_or unused a.items b.items size (λ i h.
      let within : i < 8 = omega (arith, can.room.items) in
      same_item (slice_index_or a.items i unused) (slice_index_or b.items i unused) (sym (kind_is words version a is can long i within) ∙ kind_is words version b is' can' long i within)
      (can.item_columns i unused h) (can'.item_columns i unused (omega (arith, size, h)))
      (sym (item_is words version a is can long i 1 within (omega arith)) ∙ item_is words version b is' can' long i 1 within (omega arith)))

  same_hash : a.hash ≡ b.hash
  same_hash = same_bit a.hash b.hash (sym (is.each 3 (omega arith)) ∙ is'.each 3 (omega arith))

  pub same_plan : a.filters ≡ b.filters → a ≡ b
  same_plan filters = λ i. record { groups = same_groups i; items = same_items i; hash = same_hash i; filters = filters i }

-- a descriptor's words are allowed
pub descriptor_allowed : (words : List ℕ) (plan : Plan) → IsWritable plan → IsDescriptor words plan → bad_word words ≡ None
descriptor_allowed words plan can (inl is) = none_bad_written words 2 plan (words_of words 2 plan is) can (omega arith) (λ one. absurd (omega (arith, one))) refl (omega arith)
descriptor_allowed words plan can (inr is) = none_bad_written words 1 plan (words_of words 1 plan is.0) can (omega arith) (λ one. is.2) refl (omega arith)

-- and are those of one plan
pub one_plan : (words : List ℕ) (a b : Plan) → IsWritable a → IsWritable b → IsDescriptor words a → IsDescriptor words b → a ≡ b
one_plan words a b can can' (inl is) (inl is') =
    let v = words_of words 2 a is in
    let w = words_of words 2 b is' in
    same_plan words 2 a b v w can can' (omega arith)
    (plain_is a can.plain
    ∙ ap plain_filters (same_filter (filter_of a) (filter_of b) can.filter can'.filter (λ k h. sym (v.each (28 + k) (omega arith) ∙ word_of_filter 2 a k) ∙ (w.each (28 + k) (omega arith) ∙ word_of_filter 2 b k)))
    ∙ sym (plain_is b can'.plain))
one_plan words a b can can' (inr is) (inr is') = same_plan words 1 a b (words_of words 1 a is.0) (words_of words 1 b is'.0) can can' (omega arith) (is.1 ∙ sym is'.1)
one_plan words a b can can' (inl is) (inr is') =
    let v = (words_of words 2 a is).size in
    let w = (words_of words 1 b is'.0).size in
    absurd (omega arith)
one_plan words a b can can' (inr is) (inl is') =
    let v = (words_of words 1 a is.0).size in
    let w = (words_of words 2 b is').size in
    absurd (omega arith)
