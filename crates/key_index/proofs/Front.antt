-- Unequal numbers of the first bytes behind a common front decide the order of two keys.
use Rattle.std.proofs.Common.{◌≡◌, ◌<◌, ◌≤◌, ◌+◌, ◌-◌, ◌*◌, ◌^◌, ◌∙◌, ◌∷◌, ◌++◌, ◌⊎◌, [], ℕ, zero, suc, List, inl, inr, ap, arith, min, drop, get_or, length, mul-le-mul_right, pow-add, refl, subst, suc-mul, sym, take}
use Rattle.std.proofs.lemmas.Cmp.{nat_cmp_total, nat_list_cmp_total, tied_itself}
use Rattle.std.proofs.lemmas.Bool.{cases_lt}
use Rattle.std.proofs.lemmas.List.{append-nil, append_assoc, drop-drop, drop_all, get_or-append_right, get_or-drop, take_all}
use Rattle.std.proofs.Math.ListN.{get_or-append}
use Rattle.std.proofs.Math.Seq.{drop-append_seam, drop-nil}
use Rattle.std.specs.Cmp.{nat_cmp_is}
use Rattle.std.specs.Int.{from_be_bytes, w128}
use Rattle.std.specs.Ordering.{nat_cmp, ordering_reverse, ordering_then}
use Rattle.std.specs.declared.cmp.Ordering.{Ordering}
use Rattle.std.specs.declared.cmp.Ordering.TheVariants.{Less, Equal, Greater}
use Rattle.key_index.specs.Front.{AllBytes, IsFrontOf, leading}
use Rattle.key_index.specs.Keys.{key_cmp}
use Rattle.key_index.proofs.Index.{three}

rest_of : (n x : ℕ) (xs : List ℕ) → AllBytes (take (suc n) (x ∷ xs)) → AllBytes (take n xs)
rest_of n x xs h = λ k d lt. h (suc k) d (omega arith)

first_of_all : (n x : ℕ) (xs : List ℕ) → AllBytes (take (suc n) (x ∷ xs)) → x < 256
first_of_all n x xs h = h 0 0 (omega arith)

next_power : (n : ℕ) → 256 ^ suc n ≡ 256 ^ n * 256
next_power n = ap (λ (k : ℕ). 256 ^ k) (let e : suc n ≡ n + 1 = omega arith in e) ∙ pow-add 256 n 1

-- a number of this many bytes is below the power of 256
below : (n : ℕ) (xs : List ℕ) → AllBytes (take n xs) → leading n xs < 256 ^ n
unfolding leading
below zero xs h = omega arith
below (suc n) [] h =
    let p : ℕ = 256 ^ n in
    let some : 0 < p = (let b : leading n [] < p = below n [] (λ k d lt. absurd (none n k lt)) in omega arith) in
    rw (next_power n) (omega arith)
  where
    none : (n k : ℕ) → k < length (take {A = ℕ} n []) → ⊥
    none zero k lt = omega arith
    none (suc n) k lt = omega arith
below (suc n) (x ∷ xs) h =
    let p : ℕ = 256 ^ n in
    let rest : leading n xs < p = below n xs (rest_of n x xs h) in
    let first : suc x * p ≤ 256 * p = mul-le-mul_right p (first_of_all n x xs h) in
    rw (next_power n) (omega (arith, suc-mul x p))

-- where the numbers of this many bytes rise, so do the lists
pub less : (n : ℕ) (a b : List ℕ) → AllBytes (take n a) → AllBytes (take n b) → leading n a < leading n b → key_cmp a b ≡ Less
unfolding leading
less zero a b x y lt = absurd (omega arith)
less (suc n) [] [] x y lt = absurd (omega arith)
less (suc n) [] (d ∷ b) x y lt = refl
less (suc n) (c ∷ a) [] x y lt = absurd (omega arith)
less (suc n) (c ∷ a) (d ∷ b) x y lt = by (three c d) (λ more. less n a b (rest_of n c a x) (rest_of n d b y) more)
  where
    by : (c < d) ⊎ ((c ≡ d) ⊎ (d < c)) → (leading n a < leading n b → key_cmp a b ≡ Less) → ordering_then (nat_cmp c d) (key_cmp a b) ≡ Less
    by (inl first) behind = ap (λ (o : Ordering). ordering_then o (key_cmp a b)) (sym (nat_cmp_is c d Less first))
    by (inr (inl same)) behind =
        let e : c * 256 ^ n ≡ d * 256 ^ n = ap (λ (k : ℕ). k * 256 ^ n) same in
        ap (λ (o : Ordering). ordering_then o (key_cmp a b)) (sym (nat_cmp_is c d Equal same)) ∙ behind (omega arith)
    by (inr (inr more)) behind =
        let p : ℕ = 256 ^ n in
        let up : suc d * p ≤ c * p = mul-le-mul_right p more in
        let small : leading n b < p = below n b (rest_of n d b y) in
        absurd (omega (arith, suc-mul d p, lt))

-- a front that two lists have in common does not matter
cmp-behind : (front a b : List ℕ) → key_cmp (front ++ a) (front ++ b) ≡ key_cmp a b
cmp-behind [] a b = refl
cmp-behind (x ∷ front) a b = ap (λ (o : Ordering). ordering_then o (key_cmp (front ++ a) (front ++ b))) (tied_itself nat_cmp_total x) ∙ cmp-behind front a b

leading-none : (n : ℕ) → leading n [] ≡ 0
unfolding leading
leading-none zero = refl
leading-none (suc n) = refl

next : (n i : ℕ) (bs : List ℕ) → leading (suc n) (drop i bs) ≡ get_or bs i 0 * 256 ^ n + leading n (drop (suc i) bs)
unfolding leading
next n i bs = by (drop i bs) (get_or-drop i bs 0 0 ∙ ap (λ (k : ℕ). get_or bs k 0) (let e : i + 0 ≡ i = omega arith in e)) (drop-drop 1 i bs ∙ ap (λ (k : ℕ). drop k bs) (let e : i + 1 ≡ suc i = omega arith in e))
  where
    by : (xs : List ℕ) → get_or xs 0 0 ≡ get_or bs i 0 → drop 1 xs ≡ drop (suc i) bs → leading (suc n) xs ≡ get_or bs i 0 * 256 ^ n + leading n (drop (suc i) bs)
    by [] e r = rw (← e, ← r) (omega (arith, leading-none n))
    by (x ∷ xs) e r = rw (← e, ← r) refl

leading-zero : (xs : List ℕ) → leading 0 xs ≡ 0
unfolding leading
leading-zero xs = refl

-- sixteen bytes as `u128` reads them, with zeros behind
pub number-is : (bs all : List ℕ) → ((i : ℕ) → get_or all i 0 ≡ get_or bs i 0) → from_be_bytes w128 all ≡ leading 16 bs
number-is bs all same =
    let s0 = next 15 0 bs in
    let s1 = next 14 1 bs in
    let s2 = next 13 2 bs in
    let s3 = next 12 3 bs in
    let s4 = next 11 4 bs in
    let s5 = next 10 5 bs in
    let s6 = next 9 6 bs in
    let s7 = next 8 7 bs in
    let s8 = next 7 8 bs in
    let s9 = next 6 9 bs in
    let s10 = next 5 10 bs in
    let s11 = next 4 11 bs in
    let s12 = next 3 12 bs in
    let s13 = next 2 13 bs in
    let s14 = next 1 14 bs in
    let s15 = next 0 15 bs in
    let none : leading 0 (drop 16 bs) ≡ 0 = leading-zero (drop 16 bs) in
    omega (arith, same 0, same 1, same 2, same 3, same 4, same 5, same 6, same 7, same 8, same 9, same 10, same 11, same 12, same 13, same 14, same 15)

abbrev pub zeros : ℕ → List ℕ
zeros zero = []
zeros (suc n) = 0 ∷ zeros n

zero-at : (n k : ℕ) → get_or (zeros n) k 0 ≡ 0
zero-at zero k = refl
zero-at (suc n) zero = refl
zero-at (suc n) (suc k) = zero-at n k

past : (bs : List ℕ) (i : ℕ) → length bs ≤ i → get_or bs i 0 ≡ 0
past [] i le = refl
past (b ∷ bs) zero le = absurd (omega arith)
past (b ∷ bs) (suc i) le = past bs i (omega arith)

-- zeros behind bytes are as no bytes
pub padded : (bs : List ℕ) (i : ℕ) → get_or (bs ++ drop (length bs) (zeros 16)) i 0 ≡ get_or bs i 0
padded bs i = by (cases_lt i (length bs))
  where
    by : (i < length bs) ⊎ (length bs ≤ i) → get_or (bs ++ drop (length bs) (zeros 16)) i 0 ≡ get_or bs i 0
    by (inl lt) = get_or-append bs (drop (length bs) (zeros 16)) 0 i lt
    by (inr le) =
        get_or-append_right bs (drop (length bs) (zeros 16)) (length bs) i 0 refl le ∙ get_or-drop (length bs) (zeros 16) (i - length bs) 0 ∙ zero-at 16 (length bs + (i - length bs)) ∙ sym (past bs i le)

-- only this many bytes count
pub leading-take : (n : ℕ) (bs : List ℕ) → leading n (take n bs) ≡ leading n bs
unfolding leading
leading-take zero bs = refl
leading-take (suc n) [] = refl
leading-take (suc n) (x ∷ bs) = ap (λ (k : ℕ). x * 256 ^ n + k) (leading-take n bs)

-- a key that begins with the common front, or has no bytes
abbrev pub IsBehind : List ℕ → List ℕ → Type 0
IsBehind front key = IsFrontOf front key ⊎ (key ≡ [])

behind : (front key : List ℕ) (f : IsFrontOf front key) → drop (length front) key ≡ f.rest
behind front key f = ap (drop (length front)) f.is ∙ drop-append_seam front f.rest

less-behind : (n : ℕ) (front a b : List ℕ) → IsBehind front a → IsBehind front b → AllBytes (take n (drop (length front) a)) → AllBytes (take n (drop (length front) b))
    → leading n (drop (length front) a) < leading n (drop (length front) b) → key_cmp a b ≡ Less
less-behind n front a b (inl f) (inl g) x y lt =
    (λ i. key_cmp (f.is i) (g.is i)) ∙ cmp-behind front f.rest g.rest
    ∙ less n f.rest g.rest (subst (λ (l : List ℕ). AllBytes (take n l)) (behind front a f) x) (subst (λ (l : List ℕ). AllBytes (take n l)) (behind front b g) y)
    (subst (λ (k : ℕ). k < leading n g.rest) (ap (leading n) (behind front a f)) (subst (λ (k : ℕ). leading n (drop (length front) a) < k) (ap (leading n) (behind front b g)) lt))
less-behind n front a b f (inr none) x y lt =
    absurd (omega (arith, lt, ap (λ (l : List ℕ). leading n (drop (length front) l)) none ∙ ap (leading n) (drop-nil (length front)) ∙ leading-none n))
less-behind n front a b (inr none) (inl g) x y lt = by b (ap (λ (l : List ℕ). leading n (drop (length front) l)) none ∙ ap (leading n) (drop-nil (length front)) ∙ leading-none n) lt
  where
    by : (b : List ℕ) → leading n (drop (length front) a) ≡ 0 → leading n (drop (length front) a) < leading n (drop (length front) b) → key_cmp a b ≡ Less
    by [] e lt = absurd (omega (arith, e, lt, ap (leading n) (drop-nil (length front)) ∙ leading-none n))
    by (y ∷ ys) e lt = ap (λ (l : List ℕ). key_cmp l (y ∷ ys)) none

-- so the order by these numbers, and by the keys where they are equal, is that by the keys
pub by_front : (n : ℕ) (front a b : List ℕ) → IsBehind front a → IsBehind front b → AllBytes (take n (drop (length front) a)) → AllBytes (take n (drop (length front) b))
    → ordering_then (nat_cmp (leading n (drop (length front) a)) (leading n (drop (length front) b))) (key_cmp a b) ≡ key_cmp a b
by_front n front a b f g x y = by (three p q)
  where
    p : ℕ
    p = leading n (drop (length front) a)

    q : ℕ
    q = leading n (drop (length front) b)

    by : (p < q) ⊎ ((p ≡ q) ⊎ (q < p)) → ordering_then (nat_cmp p q) (key_cmp a b) ≡ key_cmp a b
    by (inl lt) = ap (λ (o : Ordering). ordering_then o (key_cmp a b)) (sym (nat_cmp_is p q Less lt)) ∙ sym (less-behind n front a b f g x y lt)
    by (inr (inl e)) = ap (λ (o : Ordering). ordering_then o (key_cmp a b)) (sym (nat_cmp_is p q Equal e))
    by (inr (inr gt)) =
        ap (λ (o : Ordering). ordering_then o (key_cmp a b)) (sym (nat_cmp_is p q Greater gt))
        ∙ sym (nat_list_cmp_total.antisymm a b ∙ ap ordering_reverse (less-behind n front b a g f y x gt))

pub front-same : (front key : List ℕ) → key ≡ front → IsFrontOf front key
front-same front key e = record { rest = []; is = e ∙ sym (append-nil front) }

pub front-of-front : (short front key : List ℕ) → IsFrontOf short front → IsFrontOf front key → IsFrontOf short key
front-of-front short front key f g = record { rest = f.rest ++ g.rest; is = g.is ∙ ap (λ (l : List ℕ). l ++ g.rest) f.is ∙ append_assoc short f.rest g.rest }

-- as many of 16 bytes from a place on as there are
pub cut-is : (key : List ℕ) (from m n : ℕ) → m ≡ min from (length key) → n ≡ min (length (drop m key)) 16 → take n (drop m key) ≡ take 16 (drop from key)
cut-is key from m n a b = by (cases_lt (length key) from) (cases_lt (length (drop m key)) 16)
  where
    start : (length key < from) ⊎ (from ≤ length key) → drop m key ≡ drop from key
    start (inl past) = drop_all m key (omega arith) ∙ sym (drop_all from key (omega arith))
    start (inr le) = ap (λ (k : ℕ). drop k key) (let e : m ≡ from = omega arith in e)

    by : (length key < from) ⊎ (from ≤ length key) → (length (drop m key) < 16) ⊎ (16 ≤ length (drop m key)) → take n (drop m key) ≡ take 16 (drop from key)
    by s (inl few) = take_all n (drop m key) (omega arith) ∙ sym (take_all 16 (drop m key) (omega arith)) ∙ ap (take 16) (start s)
    by s (inr many) = ap (λ (k : ℕ). take k (drop m key)) (let e : n ≡ 16 = omega arith in e) ∙ ap (take 16) (start s)
