-- Which places begin no separator.
use Rattle.std.proofs.Common.{◌≡◌, ◌<◌, ◌≤◌, ◌+◌, ◌-◌, ◌∙◌, ℕ, zero, suc, List, drop, slice_index, inl, inr, ◌⊎◌, arith, subst, ap}
use Rattle.std.proofs.lemmas.Bool.{eq-eqb}
use Rattle.std.proofs.lemmas.List.{get_or-drop}
use Rattle.memchr.specs.Find.{Nowhere, Passes, is_byte}
use Rattle.join_query.specs.Outcome.{IsSeparator}

-- of two numbers the one is below the other, or it is not
pub below_or : (n k : ℕ) → (k < n) ⊎ (n ≤ k)
below_or zero k = inr (omega arith)
below_or (suc n) zero = inl (omega arith)
below_or (suc n) (suc k) = elim (below_or n k) [ inl lt ↦ inl (omega (arith, lt)) | inr le ↦ inr (omega (arith, le)) ]

-- no place without the mark begins one
pub none_further : (bytes : List ℕ) (at count : ℕ) → Nowhere (IsSeparator bytes) 0 at → Nowhere (Passes (is_byte 37) (drop at bytes)) 0 count → Nowhere (IsSeparator bytes) 0 (at + count)
none_further bytes at count before marks = λ k low lt sep. elim (below_or at k) [
  | inl near ↦ before k low near sep
  | inr far ↦
      let there : at + (k - at) ≡ k = omega (arith, far) in
      let mark : slice_index (drop at bytes) (k - at) ≡ 37 = get_or-drop at bytes (k - at) 0 ∙ ap (slice_index bytes) there ∙ sep.mark in
      marks (k - at) (omega arith) (omega (arith, far, lt)) (eq-eqb (slice_index (drop at bytes) (k - at)) 37 mark)
]

-- nor does a place that was looked at
pub none_here : (bytes : List ℕ) (at : ℕ) → Nowhere (IsSeparator bytes) 0 at → (IsSeparator bytes at → ⊥) → Nowhere (IsSeparator bytes) 0 (at + 1)
none_here bytes at before here = λ k low lt sep. elim (below_or at k) [
  | inl near ↦ before k low near sep
  | inr far ↦
      let same : k ≡ at = omega (arith, far, lt) in
      here (subst (IsSeparator bytes) same sep)
]
