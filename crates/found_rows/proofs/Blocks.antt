-- The first byte of a kind from a place on, by the masks of 64 bytes at a time.
use Rattle.std.proofs.Common.{◌≡◌, ◌<◌, ◌≤◌, ◌+◌, ◌-◌, ◌∙◌, ℕ, zero, suc, Bool, true, false, List, [], ◌∷◌, length, slice_index, sym, ap, inl, inr, arith}
use Rattle.std.specs.Int.{bit_at}
use Rattle.std.proofs.lemmas.Bool.{cases_Bool, cases_lt, false≢true}
use Rattle.std.proofs.lemmas.Nat.Bits.{bit_at-zero}
use Rattle.found_rows.specs.Masks.{IsFirst, IsMaskOf, NoneIn}

-- a byte of a kind is within the text, if a byte 0 is none
pub inside : (is : ℕ → Bool) (text : List ℕ) (at : ℕ) → is 0 ≡ false → is (slice_index text at) ≡ true → at < length text
inside is [] at none h = absurd (false≢true (sym none ∙ h))
inside is (c ∷ text) zero none h = omega arith
inside is (c ∷ text) (suc at) none h =
    let lt = inside is text at none h in
    omega (arith, lt)

-- a mask has those bits of another from a place on
pub record IsSince (whole base from mask : ℕ) : Type 0 where
  pub kept : (k : ℕ) → k < 64 → from ≤ base + k → bit_at mask k ≡ bit_at whole k
  pub no_more : (k : ℕ) → bit_at mask k ≡ 1 → (bit_at whole k ≡ 1) × (from ≤ base + k)

-- what is left of a mask without the bits below a number
pub since-base : (whole base from skip mask : ℕ) → skip ≡ from - base → ((k : ℕ) → k < 64 → skip ≤ k → bit_at mask k ≡ bit_at whole k) → ((k : ℕ) → bit_at mask k ≡ 1 → (bit_at whole k ≡ 1) × (skip ≤ k))
    → IsSince whole base from mask
since-base whole base from skip mask is kept no_more = record {
  kept = λ k lt le. kept k lt (omega (arith, is, le));
  no_more = λ k set. let b = no_more k set in (b.0, omega (arith, is, b.1));
}

module _ (is : ℕ → Bool) (text : List ℕ) (whole base from mask : ℕ) (marked : IsMaskOf is text base whole) (since : IsSince whole base from mask) (before : NoneIn is text from base) where
  -- below the bits that are not set there is none
  pub none-to : (bit : ℕ) → bit ≤ 64 → ((k : ℕ) → k < bit → bit_at mask k ≡ 0) → NoneIn is text from (base + bit)
  none-to bit small below j low high = elim (cases_lt j base) [
    | inl lt ↦ before j low lt
    | inr le ↦ elim (cases_Bool (is (slice_index text j))) [
      | inr e ↦ e
      | inl e ↦
          let k = j - base in
          let place : base + k ≡ j = omega (arith, le) in
          let short : k < bit = omega (arith, high, le) in
          let set : bit_at whole k ≡ 1 = (marked k).1 (omega (arith, short, small), ap (λ n. is (slice_index text n)) place ∙ e) in
          absurd (omega (arith, set, below k short, since.kept k (omega (arith, short, small)) (omega (arith, place, low))))
    ]
  ]

  pub none-in-block : mask ≡ 0 → NoneIn is text from (base + 64)
  none-in-block none = none-to 64 (omega arith) (λ k lt. ap (λ m. bit_at m k) none ∙ bit_at-zero k)

  -- the lowest bit
  pub first-bit : (bit : ℕ) → is 0 ≡ false → bit_at mask bit ≡ 1 → ((k : ℕ) → k < bit → bit_at mask k ≡ 0) → IsFirst is text from (base + bit)
  first-bit bit zero-none set below =
      let b = since.no_more bit set in
      let m = (marked bit).0 b.0 in
      let low = inside is text (base + bit) zero-none m.1 in
      record { low = b.1; high = omega (arith, low); before = none-to bit (omega (arith, m.0)) below; here = λ _. m.1 }

  -- or none up to the end of the text
  pub first-end : mask ≡ 0 → length text ≤ base + 64 → from ≤ length text → IsFirst is text from (length text)
  first-end none short within = record {
    low = within;
    high = omega arith;
    before = λ j low high. none-in-block none j low (omega (arith, high, short));
    here = λ lt. absurd (omega (arith, lt));
  }
