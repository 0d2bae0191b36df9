-- The places of a descriptor in its four sections: the head, the columns to group by, the aggregates, the filter.
use Rattle.std.proofs.Common.{◌≡◌, ◌<◌, ◌≤◌, ◌+◌, ◌-◌, ◌*◌, ◌/◌, ◌%◌, ℕ, zero, suc, true, false, List, inl, inr, nat_lt, arith, refl, subst}
use Rattle.std.proofs.lemmas.Bool.{cases_lt}
use Rattle.std.proofs.lemmas.Bool.Decides.{nat_tests}
use Rattle.std.specs.Prelude.{slice_index, slice_index_or}
use Rattle.par_model.specs.Plan.{Plan}
use Rattle.par_model.specs.PlanLayout.{unused}
use Rattle.plan_descriptor.specs.Descriptor.{filter_of, filter_word, head_word, is_allowed, is_column, is_filter, is_head, is_item, item_word, plan_word}

below : (a b : ℕ) → a < b → nat_lt a b ≡ true
below a b h = grind (arith, nat_tests)

past : (a b : ℕ) → b ≤ a → nat_lt a b ≡ false
past a b h = grind (arith, nat_tests)

-- what holds in each section holds at each place
pub by_section : (P : ℕ → Type 0) → ((k : ℕ) → k < 4 → P k) → ((i : ℕ) → i < 8 → P (4 + i)) → ((i k : ℕ) → i < 8 → k < 2 → P (12 + 2 * i + k)) → ((k : ℕ) → k < 4 → P (28 + k))
    → (k : ℕ) → k < 32 → P k
by_section P head group item filter k h = elim (cases_lt k 4) [
  | inl a ↦ head k a
  | inr a ↦ elim (cases_lt k 12) [
    | inl b ↦ subst P (let same : 4 + (k - 4) ≡ k = omega arith in same) (group (k - 4) (omega arith))
    | inr b ↦ elim (cases_lt k 28) [
      | inl c ↦ subst P (let same : 12 + 2 * ((k - 12) / 2) + k % 2 ≡ k = omega arith in same) (item ((k - 12) / 2) (k % 2) (omega arith) (omega arith))
      | inr c ↦ subst P (let same : 28 + (k - 28) ≡ k = omega arith in same) (filter (k - 28) (omega arith))
    ]
  ]
]

-- what holds at each of four numbers
pub by_four : (P : ℕ → Type 0) → P 0 → P 1 → P 2 → P 3 → (k : ℕ) → k < 4 → P k
by_four P a b c d zero h = a
by_four P a b c d (suc zero) h = b
by_four P a b c d (suc (suc zero)) h = c
by_four P a b c d (suc (suc (suc zero))) h = d
by_four P a b c d (suc (suc (suc (suc k)))) h = absurd (omega arith)

-- and at each of two
pub by_two : (P : ℕ → Type 0) → P 0 → P 1 → (k : ℕ) → k < 2 → P k
by_two P a b zero h = a
by_two P a b (suc zero) h = b
by_two P a b (suc (suc k)) h = absurd (omega arith)

-- ---- the word of a plan at a place

module _ (version : ℕ) (plan : Plan) where
  pub word_of_head : (k : ℕ) → k < 4 → plan_word version plan k ≡ head_word version plan k
  word_of_head k h = rw (below k 4 h) refl

  pub word_of_group : (i : ℕ) → i < 8 → plan_word version plan (4 + i) ≡ slice_index plan.groups i
  word_of_group i h =
      let same : 4 + i - 4 ≡ i = omega arith in
      rw (past (4 + i) 4 (omega arith), below (4 + i) 12 (omega arith), same) refl

  pub word_of_item : (i k : ℕ) → i < 8 → k < 2 → plan_word version plan (12 + 2 * i + k) ≡ item_word (slice_index_or plan.items i unused) k
  word_of_item i k h below_two =
      let at = 12 + 2 * i + k in
      let place : (at - 12) / 2 ≡ i = omega arith in
      let part : at % 2 ≡ k = omega arith in
      rw (past at 4 (omega arith), past at 12 (omega arith), below at 28 (omega arith), place, part) refl

  pub word_of_filter : (k : ℕ) → plan_word version plan (28 + k) ≡ filter_word (filter_of plan) k
  word_of_filter k =
      let at = 28 + k in
      let same : at - 28 ≡ k = omega arith in
      rw (past at 4 (omega arith), past at 12 (omega arith), past at 28 (omega arith), same) refl

-- ---- whether the word at a place is allowed

module _ (words : List ℕ) where
  pub allowed_head : (k : ℕ) → k < 4 → is_allowed words k ≡ is_head k (slice_index words k)
  allowed_head k h = rw (below k 4 h) refl

  pub allowed_group : (i : ℕ) → i < 8 → is_allowed words (4 + i) ≡ is_column (nat_lt i (slice_index words 1)) (slice_index words (4 + i))
  allowed_group i h =
      let same : 4 + i - 4 ≡ i = omega arith in
      rw (past (4 + i) 4 (omega arith), below (4 + i) 12 (omega arith), same) refl

  pub allowed_item : (i k : ℕ) → i < 8 → k < 2 → is_allowed words (12 + 2 * i + k) ≡ is_item words i k (slice_index words (12 + 2 * i + k))
  allowed_item i k h below_two =
      let at = 12 + 2 * i + k in
      let place : (at - 12) / 2 ≡ i = omega arith in
      let part : at % 2 ≡ k = omega arith in
      rw (past at 4 (omega arith), past at 12 (omega arith), below at 28 (omega arith), place, part) refl

  pub allowed_filter : (k : ℕ) → is_allowed words (28 + k) ≡ is_filter words k (slice_index words (28 + k))
  allowed_filter k =
      let at = 28 + k in
      let same : at - 28 ≡ k = omega arith in
      rw (past at 4 (omega arith), past at 12 (omega arith), past at 28 (omega arith), same) refl
