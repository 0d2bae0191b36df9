-- What the bits of a mask say of the 64 bytes that it stands for.
use Rattle.std.specs.Prelude.{◌==◌}
use Rattle.std.proofs.Common.{bit_or, cond, eqb, map, ◌≡◌, ◌<◌, ◌≤◌, ◌+◌, ◌-◌, ◌∙◌, ◌≢◌, ◌↔◌, ◌++◌, ℕ, zero, suc, true, false, List, [], ◌∷◌, drop, get_or, length, slice_index, replicate, append-nil, refl, sym, ap, inl, inr, arith}
use Rattle.std.specs.Int.{bit_at}
use Rattle.std.proofs.lemmas.Bool.{cases_Bool, cases_eq, cases_lt, cases_order, eq-eqb, eqb-true, or_cases}
use Rattle.std.proofs.lemmas.List.{length-append, length-drop}
use Rattle.std.proofs.lemmas.Nat.Bits.{bit_at-lt, bit_at-zero, bit_at_or}
use Rattle.csv_rows.specs.Masks.{HasBytes}
use Rattle.csv_rows.specs.Splits.{Marked, NoSeparator, is_separator}

-- fewer than 64 bytes with zeros behind them
padded-at : (xs zs : List ℕ) (k : ℕ) → ((j : ℕ) → get_or zs j 0 ≡ 0) → get_or (xs ++ drop (length xs) zs) k 0 ≡ get_or xs k 0
padded-at [] zs k h = h k
padded-at (x ∷ xs) [] k h = ap (λ (ys : List ℕ). get_or ys k 0) (append-nil (x ∷ xs))
padded-at (x ∷ xs) (z ∷ zs) zero h = refl
padded-at (x ∷ xs) (z ∷ zs) (suc k) h = padded-at xs zs k (λ j. h (suc j))

zeros-at : (n k : ℕ) → get_or (replicate {A = ℕ} n 0) k 0 ≡ 0
zeros-at zero k = refl
zeros-at (suc n) zero = refl
zeros-at (suc n) (suc k) = zeros-at n k

pub padded : (xs : List ℕ) → length xs < 64 → HasBytes (xs ++ drop (length xs) (replicate {A = ℕ} 64 0)) (λ k. slice_index xs k)
padded xs short =
    let grown = length-append xs (drop (length xs) (replicate {A = ℕ} 64 0)) in
    let rest = length-drop (length xs) (replicate {A = ℕ} 64 0) in
    record { long = omega (arith, grown, rest); each = λ k lt. padded-at xs (replicate {A = ℕ} 64 0) k (zeros-at 64) }

-- the bits of the bytes that are one
pub bit-of : (bytes : List ℕ) (byte k : ℕ) → (cond {A = ℕ} (get_or (map (λ x. eqb x byte) bytes) k false) 1 0 ≡ 1) ↔ ((k < length bytes) × (get_or bytes k 0 ≡ byte))
bit-of [] byte k = (λ h. absurd (omega (arith, h)), λ h. absurd (omega (arith, h.0)))
bit-of (b ∷ bytes) byte zero = elim (cases_Bool (eqb b byte)) [
  | inl e ↦ (λ h. (omega arith, eqb-true b byte e), λ h. rw e refl)
  | inr e ↦ (λ h. absurd (omega (arith, rw e at h)), λ h. absurd (cc (rw (eq-eqb b byte h.1) at e)))
]
bit-of (b ∷ bytes) byte (suc k) =
    let more = bit-of bytes byte k in
    (λ h. let m = more.0 h in (omega (arith, m.0), m.1), λ h. more.1 (omega (arith, h.0), h.1))

-- the same of a byte by another name
pub same-bit : (mask k x y byte : ℕ) → (k < 64 → x ≡ y) → ((bit_at mask k ≡ 1) ↔ ((k < 64) × (x ≡ byte))) → (bit_at mask k ≡ 1) ↔ ((k < 64) × (y ≡ byte))
same-bit mask k x y byte same is = (λ h. let b = is.0 h in (b.0, sym (same b.0) ∙ b.1), λ h. is.1 (h.0, same h.0 ∙ h.1))

-- a byte that is one of two
pub either-bit : (a b k c : ℕ) → ((bit_at a k ≡ 1) ↔ ((k < 64) × (c ≡ 44))) → ((bit_at b k ≡ 1) ↔ ((k < 64) × (c ≡ 10)))
    → (bit_at (bit_or a b) k ≡ 1) ↔ ((k < 64) × (is_separator c ≡ true))
either-bit a b k c comma line =
    let both = bit_at_or a b k in
    let low = bit_at-lt a k in
    let high = bit_at-lt b k in (
      λ h. elim (cases_eq (bit_at a k) 1) [
        | inl set ↦ let is = comma.0 set in (is.0, rw is.1 refl)
        | inr none ↦ let is = line.0 (grind (arith, both, low, high, h, none)) in (is.0, rw is.1 refl)
      ],
      λ h. elim (or_cases (c == 44) (c == 10) h.1) [
        | inl e ↦ omega (arith, both, high, comma.1 (h.0, eqb-true c 44 e))
        | inr e ↦ omega (arith, both, low, line.1 (h.0, eqb-true c 10 e))
      ],
    )

-- the mask of the 64 bytes behind those that were scanned
pub marked-first : (text : List ℕ) (at from mask : ℕ) → ((k : ℕ) → (bit_at mask k ≡ 1) ↔ ((k < 64) × (is_separator (slice_index text (at + k)) ≡ true))) → from ≤ at → NoSeparator text from at
    → Marked text at from mask
marked-first text at from mask is low clean = record {
  each = λ k lt le sep. (is k).1 (lt, sep);
  only = λ k set. let b = (is k).0 set in (b.0, omega (arith, low), b.1);
  before = clean;
  low = omega (arith, low);
}

-- a byte whose bit is not set ends no field
unset : (text : List ℕ) (at from mask k : ℕ) → Marked text at from mask → k < 64 → from ≤ at + k → bit_at mask k ≡ 0 → is_separator (slice_index text (at + k)) ≡ false
unset text at from mask k m lt le none = elim (cases_Bool (is_separator (slice_index text (at + k)))) [ inl e ↦ absurd (omega (arith, none, m.each k lt le e)) | inr e ↦ e ]

-- so none does in front of the lowest bit
clear-to : (text : List ℕ) (at from mask bit : ℕ) → Marked text at from mask → bit ≤ 64 → ((k : ℕ) → k < bit → bit_at mask k ≡ 0) → NoSeparator text from (at + bit)
clear-to text at from mask bit m small below j low high = elim (cases_lt j at) [
  | inl lt ↦ m.before j low lt
  | inr le ↦
      let is : at + (j - at) ≡ j = omega (arith, le) in
      rw is at (unset text at from mask (j - at) m (omega (arith, high, small, le)) (omega (arith, is, low)) (below (j - at) (omega (arith, high, le))))
]

pub marked-next : (text : List ℕ) (at from mask bit : ℕ) → Marked text at from mask → bit_at mask bit ≡ 1 → ((k : ℕ) → k < bit → bit_at mask k ≡ 0) → NoSeparator text from (at + bit)
marked-next text at from mask bit m set below = clear-to text at from mask bit m (omega (arith, (m.only bit set).0)) below

-- and without a bit none does among the 64 bytes
pub marked-none : (text : List ℕ) (at from mask : ℕ) → Marked text at from mask → mask ≡ 0 → NoSeparator text from (at + 64)
marked-none text at from mask m none = clear-to text at from mask 64 m (omega arith) (λ k lt. rw none (bit_at-zero k))

-- a bit stands for a byte of the text that ends a field
pub marked-within : (text : List ℕ) (place : ℕ) → is_separator (slice_index text place) ≡ true → place < length text
marked-within [] place sep = absurd (cc sep)
marked-within (x ∷ text) zero sep = omega arith
marked-within (x ∷ text) (suc place) sep =
    let lt = marked-within text place sep in
    omega (arith, lt)

-- what is left of a mask without its lowest bit stands behind that
later : (at bit k mask next : ℕ) → ((j : ℕ) → j < bit → bit_at mask j ≡ 0) → bit_at next bit ≡ 0 → bit_at mask k ≡ 1 → bit_at next k ≡ 1 → at + bit + 1 ≤ at + k
later at bit k mask next below cleared set one = elim (cases_order k bit) [
  | inl is ↦ absurd (omega (arith, cleared, rw is at one))
  | inr apart ↦ elim apart [ inl lt ↦ absurd (omega (arith, below k lt, set)) | inr gt ↦ omega (arith, gt) ]
]

-- past the lowest bit
pub marked-past : (text : List ℕ) (at from mask bit next : ℕ) → Marked text at from mask → bit_at mask bit ≡ 1 → ((k : ℕ) → k < bit → bit_at mask k ≡ 0)
    → bit_at next bit ≡ 0 → ((k : ℕ) → k < 64 → k ≢ bit → bit_at next k ≡ bit_at mask k) → ((k : ℕ) → bit_at next k ≡ 1 → bit_at mask k ≡ 1)
    → Marked text at (at + bit + 1) next
marked-past text at from mask bit next m set below cleared kept fewer =
    let here = m.only bit set in
    record {
      each = λ k lt le sep. kept k (omega (arith, lt)) (λ is. absurd (omega (arith, le, is))) ∙ m.each k lt (omega (arith, here.1, le)) sep;
      only = λ k one. let b = m.only k (fewer k one) in (b.0, later at bit k mask next below cleared (fewer k one) one, b.2);
      before = λ j low high. absurd (omega (arith, low, high));
      low = omega (arith, here.0);
    }
