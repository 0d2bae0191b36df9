-- What the words of a descriptor are where each of them is allowed.
use Rattle.std.proofs.Common.{◌≡◌, ◌<◌, ◌≤◌, ◌+◌, ◌*◌, ◌^◌, ◌∙◌, ◌&&◌, ◌||◌, ℕ, zero, suc, Bool, true, false, if◌then◌else◌, List, None, not, length, nat_le, nat_lt, nat_eq, refl, sym, ap, arith, inl, inr}
use Rattle.std.proofs.lemmas.Bool.{cases_Bool, cases_lt}
use Rattle.std.proofs.lemmas.Bool.Decides.{nat_tests}
use Rattle.std.specs.List.{position_from, range_with_len}
use Rattle.std.specs.Prelude.{◌⊎◌, slice_index}
use Rattle.par_model.specs.declared.plan.TheConstants.{MOST_PLACES}
use Rattle.plan_descriptor.proofs.Columns.{column_fits, column_none, placed_fits, placed_none, placed_old}
use Rattle.plan_descriptor.proofs.Sections.{allowed_filter, allowed_group, allowed_head, allowed_item}
use Rattle.plan_descriptor.specs.Descriptor.{bad_word, is_allowed, is_column, is_filter, is_head, is_item}

-- a search of a range that finds nothing, and one whose tests all fail
pub each_fails : (p : ℕ → Bool) (n a m : ℕ) → position_from p n (range_with_len a m) ≡ None → (k : ℕ) → a ≤ k → k < a + m → p k ≡ false
each_fails p n a zero none k low high = absurd (omega arith)
each_fails p n a (suc m) none k low high = elim (cases_Bool (p a)) [
  | inl here ↦ cc (rw here at none)
  | inr here ↦ elim (cases_lt a k) [
    | inl later ↦ each_fails p (n + 1) (a + 1) m (rw here at none) k (omega arith) (omega arith)
    | inr now ↦ let same : k ≡ a = omega arith in rw same here
  ]
]

pub none_where_each_fails : (p : ℕ → Bool) (n a m : ℕ) → ((k : ℕ) → a ≤ k → k < a + m → p k ≡ false) → position_from p n (range_with_len a m) ≡ None
none_where_each_fails p n a zero fails = refl
none_where_each_fails p n a (suc m) fails = rw (fails a (omega arith) (omega arith)) (none_where_each_fails p (n + 1) (a + 1) m (λ k low high. fails k (omega arith) (omega arith)))

not-false : (b : Bool) → not b ≡ false → b ≡ true
not-false true e = refl
not-false false e = cc

pub each_allowed : (words : List ℕ) → bad_word words ≡ None → (k : ℕ) → k < length words → is_allowed words k ≡ true
each_allowed words none k within = not-false (is_allowed words k) (each_fails (λ j. not (is_allowed words j)) 0 0 (length words) none k (omega arith) (omega arith))

pub none_bad : (words : List ℕ) → ((k : ℕ) → k < length words → is_allowed words k ≡ true) → bad_word words ≡ None
none_bad words allowed = none_where_each_fails (λ j. not (is_allowed words j)) 0 0 (length words) (λ k low high. ap not (allowed k (omega arith)))

-- the words of the head, of the columns to group by and of the aggregates
pub record Allowed (words : List ℕ) : Type 0 where
  pub version : (slice_index words 0 ≡ 1) ⊎ (slice_index words 0 ≡ 2)
  pub groups : slice_index words 1 ≤ 8
  pub some_item : 1 ≤ slice_index words 2
  pub items : slice_index words 2 ≤ 8
  pub hash : slice_index words 3 ≤ 1
  pub group_columns : (i : ℕ) → i < 8 → slice_index words (4 + i) < 2 ^ 32
  pub groups_end : (i : ℕ) → i < 8 → slice_index words 1 ≤ i → slice_index words (4 + i) ≡ 0
  pub kinds : (i : ℕ) → i < 8 → slice_index words (12 + 2 * i) ≤ 5
  pub kinds_end : (i : ℕ) → i < 8 → slice_index words 2 ≤ i → slice_index words (12 + 2 * i) ≡ 0
  pub columns : (i : ℕ) → i < 8 → slice_index words (13 + 2 * i) < 2 ^ 32 * (MOST_PLACES + 1)
  pub old_columns : slice_index words 0 ≡ 1 → (i : ℕ) → i < 8 → slice_index words (13 + 2 * i) < 2 ^ 32
  pub no_column : (i : ℕ) → i < 8 → slice_index words (12 + 2 * i) ≡ 0 → slice_index words (13 + 2 * i) ≡ 0

few_groups : (w : ℕ) → is_head 1 w ≡ true → w ≤ 8
few_groups w e = grind (arith, nat_tests)

few_items : (w : ℕ) → is_head 2 w ≡ true → (1 ≤ w) × (w ≤ 8)
few_items w e = (grind (arith, nat_tests), grind (arith, nat_tests))

one_or_none : (w : ℕ) → is_head 3 w ≡ true → w ≤ 1
one_or_none w e = grind (arith, nat_tests)

is_version : (w : ℕ) → is_head 0 w ≡ true → (w ≡ 1) ⊎ (w ≡ 2)
is_version w e = grind (arith, nat_tests)

kind_fits : (b : Bool) (w : ℕ) → (if b then nat_le w 5 else nat_eq w 0) ≡ true → w ≤ 5
kind_fits true w e = grind (arith, nat_tests)
kind_fits false w e = grind (arith, nat_tests)

kind_none : (b : Bool) (w : ℕ) → b ≡ false → (if b then nat_le w 5 else nat_eq w 0) ≡ true → w ≡ 0
kind_none true w b e = cc
kind_none false w b e = grind (arith, nat_tests)

not_below : (a b : ℕ) → b ≤ a → nat_lt a b ≡ false
not_below a b h = grind (arith, nat_tests)

both-false : (a b : Bool) → b ≡ false → (a && b) ≡ false
both-false true b e = e
both-false false b e = refl

at_zero : (w : ℕ) → w ≡ 0 → not (nat_eq w 0) ≡ false
at_zero w e = rw e refl

pub allowed : (words : List ℕ) → 28 ≤ length words → bad_word words ≡ None → Allowed words
allowed words long none =
    let each = each_allowed words none in
    let head : (k : ℕ) → k < 4 → is_head k (slice_index words k) ≡ true = λ k h. sym (allowed_head words k h) ∙ each k (omega arith) in
    let group : (i : ℕ) → i < 8 → is_column (nat_lt i (slice_index words 1)) (slice_index words (4 + i)) ≡ true = λ i h. sym (allowed_group words i h) ∙ each (4 + i) (omega arith) in
    let kind : (i : ℕ) → i < 8 → is_item words i 0 (slice_index words (12 + 2 * i)) ≡ true = λ i h.
    let same : 12 + 2 * i + 0 ≡ 12 + 2 * i = omega arith in
    rw same at (sym (allowed_item words i 0 h (omega arith)) ∙ each (12 + 2 * i + 0) (omega arith)) in
    let column : (i : ℕ) → i < 8 → is_item words i 1 (slice_index words (13 + 2 * i)) ≡ true = λ i h.
    let same : 12 + 2 * i + 1 ≡ 13 + 2 * i = omega arith in
    rw same at (sym (allowed_item words i 1 h (omega arith)) ∙ each (12 + 2 * i + 1) (omega arith)) in
    let items = few_items (slice_index words 2) (head 2 (omega arith)) in
    record {
      version = is_version (slice_index words 0) (head 0 (omega arith));
      groups = few_groups (slice_index words 1) (head 1 (omega arith));
      some_item = items.0;
      items = items.1;
      hash = one_or_none (slice_index words 3) (head 3 (omega arith));
      group_columns = λ i h. column_fits (nat_lt i (slice_index words 1)) (slice_index words (4 + i)) (group i h);
      groups_end = λ i h past. column_none (nat_lt i (slice_index words 1)) (slice_index words (4 + i)) (not_below i (slice_index words 1) past) (group i h);
      kinds = λ i h. kind_fits (nat_lt i (slice_index words 2)) (slice_index words (12 + 2 * i)) (kind i h);
      kinds_end = λ i h past. kind_none (nat_lt i (slice_index words 2)) (slice_index words (12 + 2 * i)) (not_below i (slice_index words 2) past) (kind i h);
      columns = λ i h. placed_fits words (nat_lt i (slice_index words 2) && not (nat_eq (slice_index words (12 + 2 * i)) 0)) (slice_index words (13 + 2 * i)) (column i h);
      old_columns = λ one i h. placed_old words (nat_lt i (slice_index words 2) && not (nat_eq (slice_index words (12 + 2 * i)) 0)) (slice_index words (13 + 2 * i)) one (column i h);
      no_column = λ i h rows. placed_none words (nat_lt i (slice_index words 2) && not (nat_eq (slice_index words (12 + 2 * i)) 0)) (slice_index words (13 + 2 * i))
          (both-false (nat_lt i (slice_index words 2)) (not (nat_eq (slice_index words (12 + 2 * i)) 0)) (at_zero (slice_index words (12 + 2 * i)) rows)) (column i h);
    }

-- the words of the filter
pub record AllowedFilter (words : List ℕ) : Type 0 where
  pub relation : slice_index words 28 ≤ 6
  pub column : slice_index words 29 < 2 ^ 32 * (MOST_PLACES + 1)
  pub no_column : slice_index words 28 ≡ 0 → slice_index words 29 ≡ 0
  pub no_value : slice_index words 28 ≡ 0 → slice_index words 30 ≡ 0
  pub last : slice_index words 31 ≡ 0

few_relations : (w : ℕ) → nat_le w 6 ≡ true → w ≤ 6
few_relations w e = grind (arith, nat_tests)

is_zero : (w : ℕ) → nat_eq w 0 ≡ true → w ≡ 0
is_zero w e = grind (arith, nat_tests)

value_none : (b : Bool) (w : ℕ) → b ≡ false → (b || nat_eq w 0) ≡ true → w ≡ 0
value_none true w b e = cc
value_none false w b e = grind (arith, nat_tests)

pub allowed_with_filter : (words : List ℕ) → length words ≡ 32 → bad_word words ≡ None → AllowedFilter words
allowed_with_filter words long none =
    let each = each_allowed words none in
    let word : (k : ℕ) → k < 4 → is_filter words k (slice_index words (28 + k)) ≡ true = λ k h. sym (allowed_filter words k) ∙ each (28 + k) (omega arith) in
    let relation = word 0 (omega arith) in
    let column = word 1 (omega arith) in
    let value = word 2 (omega arith) in
    let last = word 3 (omega arith) in
    record {
      relation = few_relations (slice_index words 28) relation;
      column = placed_fits words (not (nat_eq (slice_index words 28) 0)) (slice_index words 29) column;
      no_column = λ none. placed_none words (not (nat_eq (slice_index words 28) 0)) (slice_index words 29) (at_zero (slice_index words 28) none) column;
      no_value = λ none. value_none (not (nat_eq (slice_index words 28) 0)) (slice_index words 30) (at_zero (slice_index words 28) none) value;
      last = is_zero (slice_index words 31) last;
    }
