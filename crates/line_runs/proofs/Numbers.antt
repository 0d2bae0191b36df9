-- Eight bytes as a number, and what two such numbers say of the order of two columns.
use Rattle.std.proofs.Common.{◌≡◌, ◌<◌, ◌≤◌, ◌+◌, ◌-◌, ◌*◌, ◌^◌, ◌∙◌, ◌∷◌, ◌++◌, ◌⊎◌, [], ℕ, zero, suc, List, inl, inr, ap, arith, min, drop, get_or, length, refl, sym, take}
use Rattle.std.proofs.lemmas.Bool.{cases_lt}
use Rattle.std.proofs.lemmas.Cmp.{nat_cmp_total, tied_itself}
use Rattle.std.proofs.lemmas.List.{drop-drop, get_or-append_right, get_or-drop, take_all}
use Rattle.std.proofs.Math.ListN.{get_or-append}
use Rattle.std.specs.Int.{from_be_bytes, w64}
use Rattle.std.specs.Ordering.{ordering_then}
use Rattle.std.specs.declared.cmp.Ordering.{Ordering}
use Rattle.key_index.specs.Front.{leading}
use Rattle.key_index.specs.Keys.{key_cmp}

leading-none : (n : ℕ) → leading n [] ≡ 0
unfolding leading
leading-none zero = refl
leading-none (suc n) = refl

next : (n i : ℕ) (bs : List ℕ) → leading (suc n) (drop i bs) ≡ get_or bs i 0 * 256 ^ n + leading n (drop (suc i) bs)
unfolding leading
next n i bs = by (drop i bs) (get_or-drop i bs 0 0 ∙ ap (λ (k : ℕ). get_or bs k 0) (let e : i + 0 ≡ i = omega arith in e)) (drop-drop 1 i bs ∙ ap (λ (k : ℕ). drop k bs) (let e : i + 1 ≡ suc i = omega arith in e))
  where
    by : (xs : List ℕ) → get_or xs 0 0 ≡ get_or bs i 0 → drop 1 xs ≡ drop (suc i) bs → leading (suc n) xs ≡ get_or bs i 0 * 256 ^ n + leading n (drop (suc i) bs)
    by [] e r = rw (← e, ← r) (omega (arith, leading-none n))
    by (x ∷ xs) e r = rw (← e, ← r) refl

leading-zero : (xs : List ℕ) → leading 0 xs ≡ 0
unfolding leading
leading-zero xs = refl

-- eight bytes as `u64` reads them, with zeros after them
pub number-is : (bs all : List ℕ) → ((i : ℕ) → get_or all i 0 ≡ get_or bs i 0) → from_be_bytes w64 all ≡ leading 8 bs
number-is bs all same =
    let s0 = next 7 0 bs in
    let s1 = next 6 1 bs in
    let s2 = next 5 2 bs in
    let s3 = next 4 3 bs in
    let s4 = next 3 4 bs in
    let s5 = next 2 5 bs in
    let s6 = next 1 6 bs in
    let s7 = next 0 7 bs in
    let none : leading 0 (drop 8 bs) ≡ 0 = leading-zero (drop 8 bs) in
    omega (arith, same 0, same 1, same 2, same 3, same 4, same 5, same 6, same 7)

abbrev pub zeros : ℕ → List ℕ
zeros zero = []
zeros (suc n) = 0 ∷ zeros n

zero-at : (n k : ℕ) → get_or (zeros n) k 0 ≡ 0
zero-at zero k = refl
zero-at (suc n) zero = refl
zero-at (suc n) (suc k) = zero-at n k

past : (bs : List ℕ) (i : ℕ) → length bs ≤ i → get_or bs i 0 ≡ 0
past [] i le = refl
past (b ∷ bs) zero le = absurd (omega arith)
past (b ∷ bs) (suc i) le = past bs i (omega arith)

-- zeros after bytes are as no bytes
pub padded : (bs : List ℕ) (i : ℕ) → get_or (bs ++ drop (length bs) (zeros 8)) i 0 ≡ get_or bs i 0
padded bs i = by (cases_lt i (length bs))
  where
    by : (i < length bs) ⊎ (length bs ≤ i) → get_or (bs ++ drop (length bs) (zeros 8)) i 0 ≡ get_or bs i 0
    by (inl lt) = get_or-append bs (drop (length bs) (zeros 8)) 0 i lt
    by (inr le) =
        get_or-append_right bs (drop (length bs) (zeros 8)) (length bs) i 0 refl le ∙ get_or-drop (length bs) (zeros 8) (i - length bs) 0 ∙ zero-at 8 (length bs + (i - length bs)) ∙ sym (past bs i le)

-- as many of 8 bytes as there are
pub cut-is : (more : List ℕ) (n : ℕ) → n ≡ min (length more) 8 → take n more ≡ take 8 more
cut-is more n e = by (cases_lt (length more) 8)
  where
    by : (length more < 8) ⊎ (8 ≤ length more) → take n more ≡ take 8 more
    by (inl few) = take_all n more (omega arith) ∙ sym (take_all 8 more (omega arith))
    by (inr many) = ap (λ (k : ℕ). take k more) (let e : n ≡ 8 = omega arith in e)

-- a front that two columns have in common does not matter
pub cmp-behind : (front a b : List ℕ) → key_cmp (front ++ a) (front ++ b) ≡ key_cmp a b
cmp-behind [] a b = refl
cmp-behind (x ∷ front) a b = ap (λ (o : Ordering). ordering_then o (key_cmp (front ++ a) (front ++ b))) (tied_itself nat_cmp_total x) ∙ cmp-behind front a b
