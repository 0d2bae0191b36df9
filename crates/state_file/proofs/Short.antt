-- Numbers of at most nine bytes, from their low bits on.
use Rattle.std.proofs.Common.{◌≡◌, ℕ, zero, suc, ◌+◌, ◌-◌, ◌*◌, ◌/◌, ◌%◌, ◌<◌, ◌≤◌, ◌^◌, List, ◌∷◌, ◌++◌, refl, ap, sym, subst, ◌∙◌, arith, ⊎_elim}
use Rattle.std.proofs.Math.Nat.{add-mul, mul_assoc, mul_comm, one-le-pow, pow-suc}
use Rattle.std.proofs.lemmas.Bool.{cases_lt}
use Rattle.std.proofs.lemmas.Nat.{mul-add-lt}
use Rattle.state_file.specs.Number.{GoesOnAs, number_bytes, sevens}
use Rattle.state_file.proofs.Sevens.{deeper, goes_on, last, one_byte, put_together}

-- ---- bounds

-- so much is left above the low bits
pub room : (worth more : ℕ) → worth * 128 ^ (more + 1) ≤ 2 ^ 63 → worth * 128 ≤ 2 ^ 63
room worth more fits =
    let e : more + 1 ≡ suc more = omega arith in
    wide worth (128 ^ more) (subst (λ (m : ℕ). worth * m ≤ 2 ^ 63) (ap (λ (m : ℕ). 128 ^ m) e ∙ pow-suc 128 more) fits) (one-le-pow more 128 (omega arith))
  where
    wide : (w p : ℕ) → w * (p * 128) ≤ 2 ^ 63 → 1 ≤ p → w * 128 ≤ 2 ^ 63
    wide w (suc p) h some = omega (arith, sym (mul_assoc w (suc p) 128), grow w p)
      where
        grow : (w p : ℕ) → w ≤ w * suc p
        grow w p = grind arith
    wide w zero h some = absurd (omega arith)

pub less_room : (worth more : ℕ) → 0 < more → worth * 128 ^ (more + 1) ≤ 2 ^ 63 → worth * 128 * 128 ^ (more - 1 + 1) ≤ 2 ^ 63
less_room worth zero some fits = absurd (omega arith)
less_room worth (suc more) some fits =
    let a : suc more + 1 ≡ suc (suc more) = omega arith in
    let b : suc more - 1 + 1 ≡ suc more = omega arith in
    let up : 128 ^ (suc more + 1) ≡ 128 * 128 ^ (suc more - 1 + 1) = ap (λ (m : ℕ). 128 ^ m) a ∙ pow-suc 128 (suc more) ∙ mul_comm (128 ^ suc more) 128 ∙ ap (λ (m : ℕ). 128 * 128 ^ m) (sym b) in
    subst (λ (m : ℕ). m ≤ 2 ^ 63) (ap (λ (m : ℕ). worth * m) up ∙ sym (mul_assoc worth 128 (128 ^ (suc more - 1 + 1)))) fits

-- seven bits above the low ones
pub below : (low worth d : ℕ) → low < worth → d < 128 → low + d * worth < worth * 128
below low worth d less few = let h = mul-add-lt d worth low 128 few less in omega (arith, h)

-- so a product and a sum fit
pub fit_on : (low worth more d : ℕ) → low < worth → worth * 128 ^ (more + 1) ≤ 2 ^ 63 → d < 128 → (d * worth < 2 ^ 63) × (low + d * worth < 2 ^ 63) × (worth * 128 < 2 ^ 64)
fit_on low worth more d less fits few =
    let b = below low worth d less few in
    let r = room worth more fits in
    (omega (arith, b, r), omega (arith, b, r), omega (arith, r))

-- ---- the digits

pub ended : (tail : List ℕ) (first low worth more n : ℕ) (bytes : List ℕ) → bytes ≡ first ∷ tail → 0 < first → first < 128 → n ≡ low + first * worth → GoesOnAs bytes low worth more n tail
ended tail first low worth more n bytes is some few e = record {
  high = first;
  some = some;
  is = e;
  are = λ k. is ∙ ap (λ (bs : List ℕ). bs ++ tail) (sym (last (k + more) first few));
}

pub went_on : (tail : List ℕ) (first low worth more n : ℕ) (bytes rest : List ℕ) → bytes ≡ first ∷ tail → 128 ≤ first → first < 256 → 0 < more
    → GoesOnAs tail (low + (first - 128) * worth) (worth * 128) (more - 1) n rest → GoesOnAs bytes low worth more n rest
went_on tail first low worth more n bytes rest is great byte some on =
    let h = on.high in
    let above = on.some in record {
      high = h * 128 + (first - 128);
      some = omega arith;
      is = on.is ∙ regroup low (first - 128) worth h;
      are = λ k.
          let less : k + (more - 1) ≡ k + more - 1 = omega arith in
          is ∙ put_together tail first (k + more) h (h * 128 + (first - 128)) rest great byte (omega arith) above refl (on.are k ∙ ap (λ (m : ℕ). sevens m h ++ rest) less);
    }
  where
    regroup : (low d w h : ℕ) → low + d * w + h * (w * 128) ≡ low + (h * 128 + d) * w
    regroup low d w h =
        let p : (h * 128 + d) * w ≡ h * 128 * w + d * w = add-mul (h * 128) d w in
        let q : h * 128 * w ≡ h * (128 * w) = mul_assoc h 128 w in
        let r : h * (w * 128) ≡ h * (128 * w) = ap (λ (n : ℕ). h * n) (mul_comm w 128) in
        omega (arith, p, q, r)

-- a number of one byte
pub short_one : (bytes tail : List ℕ) (first : ℕ) → bytes ≡ first ∷ tail → first < 128 → bytes ≡ number_bytes first ++ tail
unfolding number_bytes
short_one bytes tail first is few = is ∙ ap (λ (bs : List ℕ). bs ++ tail) (sym (last 18 first few))

-- and one of more
pub short_more : (bytes tail : List ℕ) (first n : ℕ) (rest : List ℕ) → bytes ≡ first ∷ tail → 128 ≤ first → first < 256 → GoesOnAs tail (first - 128) 128 7 n rest → bytes ≡ number_bytes n ++ rest
unfolding number_bytes
short_more bytes tail first n rest is great byte on =
    let e = on.is in
    is ∙ put_together tail first 18 on.high n rest great byte (omega arith) on.some (omega arith) (on.are 10)

-- ---- bytes begin with one number only

pub once : (more m n : ℕ) (x y : List ℕ) → m < 128 ^ (more + 1) → n < 128 ^ (more + 1) → sevens more m ++ x ≡ sevens more n ++ y → (m ≡ n) × (x ≡ y)
once zero m n x y fm fn e = one_byte (m ∷ x) x m zero n y refl (omega arith) fn (ap (λ (bs : List ℕ). bs ++ x) (sym (last zero m (omega arith))) ∙ e)
once (suc more) m n x y fm fn e = ⊎_elim
    (λ (h : m < 128). one_byte (m ∷ x) x m (suc more) n y refl h fn (ap (λ (bs : List ℕ). bs ++ x) (sym (last (suc more) m h)) ∙ e))
    (λ (h : 128 ≤ m). many more m n x y fm fn e h (once more (m / 128) (n / 128) x y))
    (cases_lt m 128)
  where
    many : (more m n : ℕ) (x y : List ℕ) → m < 128 ^ (suc more + 1) → n < 128 ^ (suc more + 1) → sevens (suc more) m ++ x ≡ sevens (suc more) n ++ y → 128 ≤ m
        → (m / 128 < 128 ^ (more + 1) → n / 128 < 128 ^ (more + 1) → sevens more (m / 128) ++ x ≡ sevens more (n / 128) ++ y → (m / 128 ≡ n / 128) × (x ≡ y)) → (m ≡ n) × (x ≡ y)
    many more m n x y fm fn e h next =
        let g = goes_on (suc more) m fm h in
        let d = deeper (sevens (suc more) m ++ x) (sevens (suc more - 1) (m / 128) ++ x) (128 + m % 128) (suc more) n y (ap (λ (bs : List ℕ). bs ++ x) g.are) (omega arith) fn e in
        let back : suc more - 1 ≡ more = omega arith in
        let fewer : suc more - 1 + 1 ≡ more + 1 = omega arith in
        let rest = next (subst (λ (j : ℕ). m / 128 < 128 ^ j) fewer g.less) (subst (λ (j : ℕ). n / 128 < 128 ^ j) fewer d.less)
        (subst (λ (j : ℕ). sevens j (m / 128) ++ x ≡ sevens j (n / 128) ++ y) back d.are) in
        let low = d.low in
        let high = rest.0 in
        (omega arith, rest.1)

pub one_number : (bytes : List ℕ) (m n : ℕ) (x y : List ℕ) → m < 2 ^ 128 → n < 2 ^ 128 → bytes ≡ number_bytes m ++ x → bytes ≡ number_bytes n ++ y → (m ≡ n) × (x ≡ y)
unfolding number_bytes
one_number bytes m n x y fm fn a b = once 18 m n x y (omega arith) (omega arith) (sym a ∙ b)
