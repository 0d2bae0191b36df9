-- Numbers, texts and sections at the front of bytes: which they are, and what comes after them.
use Rattle.std.proofs.Common.{◌≡◌, ◌<◌, ◌+◌, ◌*◌, ◌/◌, ◌%◌, ◌^◌, ◌++◌, ◌∙◌, ℕ, zero, suc, ℤ, pos, negsuc, Bool, true, false, List, [], ◌∷◌, FitsSigned, ap, append_assoc, arith, cond, length, length-append, refl, sym}
use Rattle.std.specs.Prelude.{nat_lt}
use Rattle.std.specs.Int.{from_le_bytes, to_le_bytes, w128, w32}
use Rattle.std.proofs.Math.Nat.{div-lt_iff_lt-mul, pow-suc}
use Rattle.std.proofs.lemmas.Bool.{ltb-true}
use Rattle.std.proofs.lemmas.Nat.{from_le_bytes-to_le_bytes_4}
use Rattle.state_file.specs.Checksum.{crc32c}
use Rattle.state_file.specs.Number.{folded, number_bytes, sevens}
use Rattle.state_file.specs.Section.{section}
use Rattle.state_file.specs.Text.{text_bytes}

-- ---- lists in two parts

first_of : (x y : ℕ) (xs ys : List ℕ) → x ∷ xs ≡ y ∷ ys → (x ≡ y) × (xs ≡ ys)
first_of x y xs ys e = (cc, cc)

-- lists in two parts, of which the first are as long
pub parts_apart : (xs us ys vs : List ℕ) → length xs ≡ length us → xs ++ ys ≡ us ++ vs → (xs ≡ us) × (ys ≡ vs)
parts_apart [] [] ys vs long e = (refl, e)
parts_apart [] (u ∷ us) ys vs long e = absurd (omega (arith, long))
parts_apart (x ∷ xs) [] ys vs long e = absurd (omega (arith, long))
parts_apart (x ∷ xs) (u ∷ us) ys vs long e =
    let both = first_of x u (xs ++ ys) (us ++ vs) e in
    let rest = parts_apart xs us ys vs (omega (arith, long)) both.1 in
    (ap (λ (c : ℕ). c ∷ xs) both.0 ∙ ap (λ (l : List ℕ). u ∷ l) rest.0, rest.1)

-- ---- numbers

fewer : (more n : ℕ) → n < 128 ^ (suc more + 1) → n / 128 < 128 ^ (more + 1)
fewer more n h =
    let e : suc more + 1 ≡ suc (more + 1) = omega arith in
    let p : n < 128 ^ (more + 1) * 128 = subst_lt n (128 ^ (suc more + 1)) (128 ^ (more + 1) * 128) (ap (λ (m : ℕ). 128 ^ m) e ∙ pow-suc 128 (more + 1)) h in
    (div-lt_iff_lt-mul (omega arith)).1 p
  where
    subst_lt : (n a b : ℕ) → a ≡ b → n < a → n < b
    subst_lt n a b e h = omega (arith, e, h)

sevens_apart : (more n m : ℕ) (x y : List ℕ) → n < 128 ^ (more + 1) → m < 128 ^ (more + 1) → sevens more n ++ x ≡ sevens more m ++ y → (n ≡ m) × (x ≡ y)
unfolding sevens
sevens_apart zero n m x y h k e = first_of n m x y e
sevens_apart (suc more) n m x y h k e = go (nat_lt n 128) refl (nat_lt m 128) refl (λ f. sevens_apart more (n / 128) (m / 128) x y (fewer more n h) (fewer more m k) f) e
  where
    go : (a : Bool) → nat_lt n 128 ≡ a → (b : Bool) → nat_lt m 128 ≡ b → (sevens more (n / 128) ++ x ≡ sevens more (m / 128) ++ y → (n / 128 ≡ m / 128) × (x ≡ y))
        → cond a (n ∷ []) ((128 + n % 128) ∷ sevens more (n / 128)) ++ x ≡ cond b (m ∷ []) ((128 + m % 128) ∷ sevens more (m / 128)) ++ y → (n ≡ m) × (x ≡ y)
    go true p true q rest e = first_of n m x y e
    go true p false q rest e =
        let low : n < 128 = ltb-true n 128 p in
        let same = (first_of n (128 + m % 128) x (sevens more (m / 128) ++ y) e).0 in
        absurd (omega (arith, low, same))
    go false p true q rest e =
        let low : m < 128 = ltb-true m 128 q in
        let same = (first_of (128 + n % 128) m (sevens more (n / 128) ++ x) y e).0 in
        absurd (omega (arith, low, same))
    go false p false q rest e =
        let both = first_of (128 + n % 128) (128 + m % 128) (sevens more (n / 128) ++ x) (sevens more (m / 128) ++ y) e in
        let low = both.0 in
        let more = rest both.1 in
        let high = more.0 in
        (omega (arith, low, high), more.1)

-- a number, and what comes after it
pub number_apart : (n m : ℕ) (x y : List ℕ) → n < 2 ^ 128 → m < 2 ^ 128 → number_bytes n ++ x ≡ number_bytes m ++ y → (n ≡ m) × (x ≡ y)
unfolding number_bytes
number_apart n m x y h k e = sevens_apart 18 n m x y (omega (arith, h)) (omega (arith, k)) e

-- what begins with something and goes on, before what comes after it
regroup : (a r x : List ℕ) (b s y : List ℕ) → (a ++ r) ++ x ≡ (b ++ s) ++ y → a ++ (r ++ x) ≡ b ++ (s ++ y)
regroup a r x b s y e = sym (append_assoc a r x) ∙ e ∙ append_assoc b s y

pub number_then : (n m : ℕ) (r s x y : List ℕ) → n < 2 ^ 128 → m < 2 ^ 128 → (number_bytes n ++ r) ++ x ≡ (number_bytes m ++ s) ++ y → (n ≡ m) × (r ++ x ≡ s ++ y)
number_then n m r s x y h k e = number_apart n m (r ++ x) (s ++ y) h k (regroup (number_bytes n) r x (number_bytes m) s y e)

pub folded_same : (a b : ℤ) → folded a ≡ folded b → a ≡ b
folded_same (pos a) (pos b) e = ap pos (omega (arith, e))
folded_same (pos a) (negsuc b) e = absurd (omega (arith, e))
folded_same (negsuc a) (pos b) e = absurd (omega (arith, e))
folded_same (negsuc a) (negsuc b) e = ap negsuc (omega (arith, e))

pub folded_fits : (z : ℤ) → FitsSigned w128 z → folded z < 2 ^ 128
folded_fits (pos n) f = let h : n < 2 ^ 127 = f.sfits in omega arith
folded_fits (negsuc n) f = let h : n < 2 ^ 127 = f.sfits in omega arith

-- ---- texts

pub text_apart : (t u x y : List ℕ) → length t < 2 ^ 128 → length u < 2 ^ 128 → text_bytes t ++ x ≡ text_bytes u ++ y → (t ≡ u) × (x ≡ y)
unfolding text_bytes
text_apart t u x y h k e =
    let both = number_then (length t) (length u) t u x y h k e in
    parts_apart t u x y both.0 both.1

pub text_then : (t u r s x y : List ℕ) → length t < 2 ^ 128 → length u < 2 ^ 128 → (text_bytes t ++ r) ++ x ≡ (text_bytes u ++ s) ++ y → (t ≡ u) × (r ++ x ≡ s ++ y)
text_then t u r s x y h k e = text_apart t u (r ++ x) (s ++ y) h k (regroup (text_bytes t) r x (text_bytes u) s y e)

sevens_some : (more n : ℕ) → 0 < length (sevens more n)
unfolding sevens
sevens_some zero n = omega arith
sevens_some (suc more) n = go (nat_lt n 128)
  where
    go : (b : Bool) → 0 < length (cond b (n ∷ []) ((128 + n % 128) ∷ sevens more (n / 128)))
    go true = omega arith
    go false = omega arith

pub text_some : (t x : List ℕ) → [] ≡ text_bytes t ++ x → ⊥
unfolding text_bytes number_bytes
text_some t x e =
    let some = sevens_some 18 (length t) in
    omega (arith, some, ap length e, length-append (text_bytes t) x, length-append (number_bytes (length t)) t)

-- ---- sections

same_u32 : (m n : ℕ) → m < 2 ^ 32 → n < 2 ^ 32 → to_le_bytes w32 m ≡ to_le_bytes w32 n → m ≡ n
same_u32 m n h k e = sym (from_le_bytes-to_le_bytes_4 m h) ∙ ap (from_le_bytes w32) e ∙ from_le_bytes-to_le_bytes_4 n k

pub four_apart : (m n : ℕ) (x y : List ℕ) → to_le_bytes w32 m ++ x ≡ to_le_bytes w32 n ++ y → (to_le_bytes w32 m ≡ to_le_bytes w32 n) × (x ≡ y)
four_apart m n x y e = parts_apart (to_le_bytes w32 m) (to_le_bytes w32 n) x y refl e

pub section_apart : (a b x y : List ℕ) → length a < 2 ^ 32 → length b < 2 ^ 32 → section a ++ x ≡ section b ++ y → (a ≡ b) × (x ≡ y)
unfolding section
section_apart a b x y h k e =
    let ca = to_le_bytes w32 (crc32c a) in
    let cb = to_le_bytes w32 (crc32c b) in
    let size = four_apart (length a) (length b) ((a ++ ca) ++ x) ((b ++ cb) ++ y) (regroup (to_le_bytes w32 (length a)) (a ++ ca) x (to_le_bytes w32 (length b)) (b ++ cb) y e) in
    let part = parts_apart a b (ca ++ x) (cb ++ y) (same_u32 (length a) (length b) h k size.0) (regroup a ca x b cb y size.1) in
    (part.0, (four_apart (crc32c a) (crc32c b) x y part.1).1)

pub section_then : (a b r s x y : List ℕ) → length a < 2 ^ 32 → length b < 2 ^ 32 → (section a ++ r) ++ x ≡ (section b ++ s) ++ y → (a ≡ b) × (r ++ x ≡ s ++ y)
section_then a b r s x y h k e = section_apart a b (r ++ x) (s ++ y) h k (regroup (section a) r x (section b) s y e)
