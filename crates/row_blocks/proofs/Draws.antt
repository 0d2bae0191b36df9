-- Numbers that were drawn, each once, are those below the number of draws in another order.
use Rattle.std.proofs.Common.{◌≡◌, ◌<◌, ◌+◌, ◌++◌, ◌==◌, ℕ, zero, suc, if◌then◌else◌, Bool, true, false, List, [], ◌∷◌, refl, ap, sym, subst, ◌∙◌, arith}
use Rattle.std.specs.List.Sorted.{IsPermutation}
use Rattle.std.proofs.lemmas.List.Sorted.{IsPermutation-refl, IsPermutation-sym, IsPermutation-trans, IsPermutation-cons, IsPermutation-to_front, IsPermutation-middle}
use Rattle.scan_claim.specs.Drawing.{times, once_below, below}

-- a number taken out of a list that has it
record Without (x : ℕ) (xs : List ℕ) : Type 0 where
  pub rest : List ℕ
  pub same : IsPermutation xs (x ∷ rest)
  pub times_are : (y : ℕ) → times y xs ≡ times y (x ∷ rest)

swap_front : (x y : ℕ) (xs : List ℕ) → IsPermutation (x ∷ y ∷ xs) (y ∷ x ∷ xs)
swap_front x y xs = IsPermutation-middle (x ∷ []) y xs

without : (x : ℕ) (xs : List ℕ) → 0 < times x xs → Without x xs
without x [] h = absurd (omega arith)
without x (y ∷ ys) h = by (without x ys) (y == x) refl
  where
    by : (0 < times x ys → Without x ys) → (b : Bool) → (y == x) ≡ b → Without x (y ∷ ys)
    by more_of true e = let same : y ≡ x = grind (arith, e) in record { rest = ys; same = subst (λ z. IsPermutation (y ∷ ys) (z ∷ ys)) same (IsPermutation-refl (y ∷ ys)); times_are = λ z. ap (λ w. times z (w ∷ ys)) same }
    by more_of false e =
        let there : 0 < (if false then 1 else 0) + times x ys = subst (λ b. 0 < (if b then 1 else 0) + times x ys) e h in
        let w = more_of (omega (arith, there)) in
        record {
          rest = y ∷ w.rest;
          same = IsPermutation-trans (y ∷ ys) (y ∷ x ∷ w.rest) (x ∷ y ∷ w.rest) (IsPermutation-cons y ys (x ∷ w.rest) w.same) (swap_front y x w.rest);
          times_are = λ z. ap (λ n. (if y == z then 1 else 0) + n) (w.times_are z) ∙ (let e : (if y == z then 1 else 0) + ((if x == z then 1 else 0) + times z w.rest) ≡ (if x == z then 1 else 0) + ((if y == z then 1 else 0) + times z w.rest) = omega arith in e);
        }

none_left : (xs : List ℕ) → ((x : ℕ) → times x xs ≡ once_below x 0) → xs ≡ []
none_left [] h = refl
none_left (y ∷ ys) h = let at : times y (y ∷ ys) ≡ once_below y 0 = h y in absurd (grind (arith, at))

last_once : (n : ℕ) → once_below n (suc n) ≡ 1
last_once n = grind arith

less_once : (x n : ℕ) → once_below x (suc n) ≡ (if n == x then 1 else 0) + once_below x n
less_once x n = grind arith

pub drawn_are_below : (n : ℕ) (xs : List ℕ) → ((x : ℕ) → times x xs ≡ once_below x n) → IsPermutation xs (below n)
drawn_are_below zero xs h = subst (λ l. IsPermutation l []) (sym (none_left xs h)) (IsPermutation-refl [])
drawn_are_below (suc n) xs h =
    let some : 0 < times n xs = omega (arith, h n, last_once n) in
    let w = without n xs some in
    let rest = drawn_are_below n w.rest (λ x. omega (arith, h x, w.times_are x, less_once x n)) in
    IsPermutation-trans xs (n ∷ w.rest) (below n ++ n ∷ []) w.same
    (IsPermutation-trans (n ∷ w.rest) (n ∷ below n) (below n ++ n ∷ []) (IsPermutation-cons n w.rest (below n) rest)
    (IsPermutation-sym (below n ++ n ∷ []) (n ∷ below n) (IsPermutation-to_front (below n) n)))
