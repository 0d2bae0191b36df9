-- The bits of the quotes among 64 bytes, those before a scan taken out.
use Rattle.std.proofs.Common.{◌≡◌, ◌≢◌, ◌↔◌, ◌≤◌, ◌<◌, ◌+◌, ◌-◌, ◌∙◌, ℕ, List, slice_index, inl, inr, arith}
use Rattle.std.specs.Int.{bit_at}
use Rattle.std.proofs.lemmas.Bool.{cases_lt, cases_order}
use Rattle.std.proofs.lemmas.Nat.Bits.{bit_at-zero}
use Rattle.row_windows.specs.Quotes.{NoQuoteIn}

-- of the 64 bytes from a place on, the quotes from another place on are the bits of the mask, and before these bytes there is none
pub record AreLeft (text : List ℕ) (base from mask : ℕ) : Type 0 where
  pub each : (k : ℕ) → k < 64 → from ≤ base + k → slice_index text (base + k) ≡ 34 → bit_at mask k ≡ 1
  pub only : (k : ℕ) → bit_at mask k ≡ 1 → (k < 64) × (from ≤ base + k) × (slice_index text (base + k) ≡ 34)
  pub before : NoQuoteIn text from base
  pub low : from ≤ base + 64

-- all quotes, for a scan before these bytes
pub left-first : (text : List ℕ) (base from mask : ℕ) → ((k : ℕ) → (bit_at mask k ≡ 1) ↔ ((k < 64) × (slice_index text (base + k) ≡ 34))) → from ≤ base → NoQuoteIn text from base
    → AreLeft text base from mask
left-first text base from mask is low clean = record {
  each = λ k lt le quote. (is k).1 (lt, quote);
  only = λ k set. let b = (is k).0 set in (b.0, omega (arith, low), b.1);
  before = clean;
  low = omega (arith, low);
}

-- no quote lies below a bit below which none is set
clear-to : (text : List ℕ) (base from mask bit : ℕ) → AreLeft text base from mask → bit ≤ 64 → ((k : ℕ) → k < bit → bit_at mask k ≡ 0) → NoQuoteIn text from (base + bit)
clear-to text base from mask bit left small below j low high = elim (cases_lt j base) [
  | inl lt ↦ left.before j low lt
  | inr le ↦
      let is : base + (j - base) ≡ j = omega (arith, le) in
      λ quote. absurd (omega (
        arith,
        below (j - base) (omega (arith, high, le)),
        left.each (j - base) (omega (arith, high, small, le)) (omega (arith, is, low)) (rw is quote),
      ))
]

pub left-next : (text : List ℕ) (base from mask bit : ℕ) → AreLeft text base from mask → bit_at mask bit ≡ 1 → ((k : ℕ) → k < bit → bit_at mask k ≡ 0) → NoQuoteIn text from (base + bit)
left-next text base from mask bit left set below = clear-to text base from mask bit left (omega (arith, (left.only bit set).0)) below

pub left-none : (text : List ℕ) (base from mask : ℕ) → AreLeft text base from mask → mask ≡ 0 → NoQuoteIn text from (base + 64)
left-none text base from mask left none = clear-to text base from mask 64 left (omega arith) (λ k lt. rw none (bit_at-zero k))

-- what is left of a mask without its lowest bit lies after that
later : (base bit k mask next : ℕ) → ((j : ℕ) → j < bit → bit_at mask j ≡ 0) → bit_at next bit ≡ 0 → bit_at mask k ≡ 1 → bit_at next k ≡ 1 → base + bit + 1 ≤ base + k
later base bit k mask next below cleared set one = elim (cases_order k bit) [
  | inl is ↦ absurd (omega (arith, cleared, rw is at one))
  | inr apart ↦ elim apart [ inl lt ↦ absurd (omega (arith, below k lt, set)) | inr gt ↦ omega (arith, gt) ]
]

-- past the lowest bit
pub left-past : (text : List ℕ) (base from mask bit next : ℕ) → AreLeft text base from mask → bit_at mask bit ≡ 1 → ((k : ℕ) → k < bit → bit_at mask k ≡ 0)
    → bit_at next bit ≡ 0 → ((k : ℕ) → k < 64 → k ≢ bit → bit_at next k ≡ bit_at mask k) → ((k : ℕ) → bit_at next k ≡ 1 → bit_at mask k ≡ 1)
    → AreLeft text base (base + bit + 1) next
left-past text base from mask bit next left set below cleared kept fewer =
    let here = left.only bit set in
    record {
      each = λ k lt le quote. kept k (omega (arith, lt)) (λ is. absurd (omega (arith, le, is))) ∙ left.each k lt (omega (arith, here.1, le)) quote;
      only = λ k one. let b = left.only k (fewer k one) in (b.0, later base bit k mask next below cleared (fewer k one) one, b.2);
      before = λ j low high. absurd (omega (arith, low, high));
      low = omega (arith, here.0);
    }
