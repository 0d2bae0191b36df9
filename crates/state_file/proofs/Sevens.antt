-- Numbers in sevens of bits: how they begin, and that what is read is the one that was written.
use Rattle.std.proofs.Common.{◌≡◌, ℕ, zero, suc, ◌+◌, ◌-◌, ◌*◌, ◌/◌, ◌%◌, ◌<◌, ◌≤◌, ◌^◌, List, [], ◌∷◌, ◌++◌, length, refl, ap, sym, subst, ◌∙◌, arith, append_assoc, ⊎_elim}
use Rattle.std.proofs.Math.Nat.{div-lt_iff_lt-mul, pow-suc}
use Rattle.std.proofs.lemmas.Bool.{cases_lt, lt-ltb, le-ltb}
use Rattle.state_file.specs.Number.{sevens}

pub last : (more n : ℕ) → n < 128 → sevens more n ≡ n ∷ []
unfolding sevens
last zero n h = refl
last (suc more) n h = rw (lt-ltb n 128 h) refl

further : (more n : ℕ) → 128 ≤ n → sevens (suc more) n ≡ (128 + n % 128) ∷ sevens more (n / 128)
unfolding sevens
further more n h = rw (le-ltb n 128 h) refl

-- a number that goes on after its first byte
pub record GoesOn (more n : ℕ) : Type 0 where
  pub some : 0 < more
  pub great : 128 ≤ n
  pub less : n / 128 < 128 ^ (more - 1 + 1)
  pub are : sevens more n ≡ (128 + n % 128) ∷ sevens (more - 1) (n / 128)

pub goes_on : (more n : ℕ) → n < 128 ^ (more + 1) → 128 ≤ n → GoesOn more n
goes_on zero n fits great = absurd (omega arith)
goes_on (suc more) n fits great = record {
  some = omega arith;
  great = great;
  less = subst (λ (m : ℕ). n / 128 < 128 ^ m) (back more) (fewer more n fits);
  are = further more n great ∙ ap (λ (m : ℕ). (128 + n % 128) ∷ sevens m (n / 128)) (one_less more);
}
  where
    one_less : (more : ℕ) → more ≡ suc more - 1
    one_less more = omega arith

    back : (more : ℕ) → suc more ≡ suc more - 1 + 1
    back more = omega arith

    fewer : (more n : ℕ) → n < 128 ^ (suc more + 1) → n / 128 < 128 ^ suc more
    fewer more n h =
        let e : suc more + 1 ≡ suc (suc more) = omega arith in
        let p : n < 128 ^ suc more * 128 = subst (λ (m : ℕ). n < m) (ap (λ (m : ℕ). 128 ^ m) e ∙ pow-suc 128 (suc more)) h in
        (div-lt_iff_lt-mul (omega arith)).1 p

first_of : (x y : ℕ) (xs ys : List ℕ) → x ∷ xs ≡ y ∷ ys → (x ≡ y) × (xs ≡ ys)
first_of x y xs ys e = (cc, cc)

-- no bytes are no number
pub no_bytes : (bytes : List ℕ) (more n : ℕ) (rest : List ℕ) → length bytes ≡ 0 → n < 128 ^ (more + 1) → bytes ≡ sevens more n ++ rest → ⊥
no_bytes (b ∷ bytes) more n rest none fits e = absurd (omega arith)
no_bytes [] more n rest none fits e = ⊎_elim
    (λ (h : n < 128). nothing n [] rest (e ∙ ap (λ (bs : List ℕ). bs ++ rest) (last more n h)))
    (λ (h : 128 ≤ n). let g = goes_on more n fits h in nothing (128 + n % 128) (sevens (more - 1) (n / 128)) rest (e ∙ ap (λ (bs : List ℕ). bs ++ rest) g.are))
    (cases_lt n 128)
  where
    nothing : (x : ℕ) (xs rest : List ℕ) → [] ≡ (x ∷ xs) ++ rest → ⊥
    nothing x xs rest e = cc

-- a byte below 128 is the whole number
pub one_byte : (bytes tail : List ℕ) (first more n : ℕ) (rest : List ℕ) → bytes ≡ first ∷ tail → first < 128 → n < 128 ^ (more + 1) → bytes ≡ sevens more n ++ rest → (first ≡ n) × (tail ≡ rest)
one_byte bytes tail first more n rest is small fits e = ⊎_elim
    (λ (h : n < 128). first_of first n tail rest (sym is ∙ e ∙ ap (λ (bs : List ℕ). bs ++ rest) (last more n h)))
    (λ (h : 128 ≤ n).
    let g = goes_on more n fits h in
    let f = first_of first (128 + n % 128) tail (sevens (more - 1) (n / 128) ++ rest) (sym is ∙ e ∙ ap (λ (bs : List ℕ). bs ++ rest) g.are) in
    let same : first ≡ 128 + n % 128 = f.0 in
    absurd (omega arith))
    (cases_lt n 128)

-- what a number is whose first byte is 128 or more
pub record IsDeeper (tail : List ℕ) (first more n : ℕ) (rest : List ℕ) : Type 0 where
  pub some : 0 < more
  pub great : 128 ≤ n
  pub low : first ≡ 128 + n % 128
  pub less : n / 128 < 128 ^ (more - 1 + 1)
  pub are : tail ≡ sevens (more - 1) (n / 128) ++ rest

pub deeper : (bytes tail : List ℕ) (first more n : ℕ) (rest : List ℕ) → bytes ≡ first ∷ tail → 128 ≤ first → n < 128 ^ (more + 1) → bytes ≡ sevens more n ++ rest → IsDeeper tail first more n rest
deeper bytes tail first more n rest is great fits e = ⊎_elim
    (λ (h : n < 128).
    let f = first_of first n tail rest (sym is ∙ e ∙ ap (λ (bs : List ℕ). bs ++ rest) (last more n h)) in
    let same : first ≡ n = f.0 in
    absurd (omega arith))
    (λ (h : 128 ≤ n).
    let g = goes_on more n fits h in
    let f = first_of first (128 + n % 128) tail (sevens (more - 1) (n / 128) ++ rest) (sym is ∙ e ∙ ap (λ (bs : List ℕ). bs ++ rest) g.are) in
    record { some = g.some; great = h; low = f.0; less = g.less; are = f.1 })
    (cases_lt n 128)

-- a number of its lowest seven bits and the rest
pub put_together : (tail : List ℕ) (first more high n : ℕ) (rest : List ℕ) → 128 ≤ first → first < 256 → 0 < more → 0 < high → n ≡ high * 128 + (first - 128) → tail ≡ sevens (more - 1) high ++ rest
    → first ∷ tail ≡ sevens more n ++ rest
put_together tail first zero high n rest great byte some above is e = absurd (omega arith)
put_together tail first (suc more) high n rest great byte some above is e =
    let low : 128 + n % 128 ≡ first = omega arith in
    let up : n / 128 ≡ high = omega arith in
    let less : suc more - 1 ≡ more = omega arith in
    let big : 128 ≤ n = omega arith in
    ap (λ (bs : List ℕ). first ∷ bs) (e ∙ ap (λ (m : ℕ). sevens m high ++ rest) less)
    ∙ sym (ap (λ (bs : List ℕ). bs ++ rest) (further more n big ∙ ap (λ (b : ℕ). b ∷ sevens more (n / 128)) low ∙ ap (λ (m : ℕ). first ∷ sevens more m) up))

-- the same, as they are written
pub written_on : (out : List ℕ) (more n : ℕ) → 128 ≤ n → 0 < more → (out ++ (128 + n % 128) ∷ []) ++ sevens (more - 1) (n / 128) ≡ out ++ sevens more n
written_on out zero n great some = absurd (omega arith)
written_on out (suc more) n great some =
    let less : suc more - 1 ≡ more = omega arith in
    ap (λ (m : ℕ). (out ++ (128 + n % 128) ∷ []) ++ sevens m (n / 128)) less
    ∙ append_assoc out ((128 + n % 128) ∷ []) (sevens more (n / 128))
    ∙ ap (λ (bs : List ℕ). out ++ bs) (sym (further more n great))

-- a number that has bytes after the first has room for them
pub has_more : (more n : ℕ) → n < 128 ^ (more + 1) → 128 ≤ n → 0 < more
has_more more n fits great = (goes_on more n fits great).some
