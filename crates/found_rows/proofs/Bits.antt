-- The bits of a mask from a place on, and those of a byte.
use Rattle.std.proofs.Common.{◌≡◌, ◌<◌, ◌≤◌, ◌-◌, ◌^◌, ◌↔◌, ℕ, true, inl, inr, arith, w64, bit_and}
use Rattle.std.specs.Int.{bit_at, bit_not}
use Rattle.std.proofs.Common.{pow_pos, pow_mono}
use Rattle.std.proofs.lemmas.Bool.{cases_lt, eq-eqb, eqb-true}
use Rattle.std.proofs.lemmas.Nat.Bits.{bit_at-lt, bit_at_and, bit_at_not, bit_at_ones, bit_at_ones_above}
use Rattle.found_rows.specs.Masks.{is_quote}

-- the bits from a place on
abbrev pub high_bits : ℕ → ℕ → ℕ
high_bits mask skip = bit_and mask (bit_not w64 (2 ^ skip - 1))

module _ (mask skip : ℕ) (low : skip < 64) where
  ones-fit : 2 ^ skip - 1 < 2 ^ 64
  ones-fit = omega (arith, pow_pos skip, pow_mono {i = skip} {j = 64} (omega (arith, low)))

  pub kept-bit : (k : ℕ) → k < 64 → skip ≤ k → bit_at (high_bits mask skip) k ≡ bit_at mask k
  kept-bit k lt le =
      let both = bit_at_and mask (bit_not w64 (2 ^ skip - 1)) k in
      let other = bit_at_not w64 (2 ^ skip - 1) k ones-fit lt in
      let none = bit_at_ones_above skip k le in
      omega (arith, both, other, none, bit_at-lt mask k)

  pub no-more-bit : (k : ℕ) → bit_at (high_bits mask skip) k ≡ 1 → (bit_at mask k ≡ 1) × (skip ≤ k)
  no-more-bit k set =
      let both = bit_at_and mask (bit_not w64 (2 ^ skip - 1)) k in
      let here : bit_at mask k ≡ 1 = omega (arith, both, set, bit_at-lt mask k) in
      elim (cases_lt k skip) [
        | inl lt ↦ absurd (omega (arith, both, set, bit_at_not w64 (2 ^ skip - 1) k ones-fit (omega (arith, lt, low)), bit_at_ones skip k lt))
        | inr le ↦ (here, le)
      ]

-- a byte that is a quote
pub quote-bit : (mask k c : ℕ) → ((bit_at mask k ≡ 1) ↔ ((k < 64) × (c ≡ 34))) → (bit_at mask k ≡ 1) ↔ ((k < 64) × (is_quote c ≡ true))
quote-bit mask k c is = (λ h. let b = is.0 h in (b.0, eq-eqb c 34 b.1), λ h. is.1 (h.0, eqb-true c 34 h.1))
