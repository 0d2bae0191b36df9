-- A total order that tells any two elements apart has one sorted list of given elements only.
use Rattle.std.proofs.Common.{◌≡◌, ◌<◌, ◌+◌, ◌++◌, ℕ, suc, Bool, true, false, cond, List, [], ◌∷◌, length, get_or, refl, ap, sym, subst, ◌∙◌, arith}
use Rattle.std.specs.Cmp.{IsTotalOrder, tied_itself}
use Rattle.std.specs.List.{AllByRecursion, sum_by}
use Rattle.std.specs.List.Sorted.{IsPermutation, IsSorted}
use Rattle.std.specs.Ordering.{is_eq, is_lt, ordering_reverse}
use Rattle.std.specs.declared.cmp.Ordering.{Ordering}
use Rattle.std.specs.declared.cmp.Ordering.TheVariants.{Less, Equal, Greater}
use Rattle.std.proofs.lemmas.List.Sorted.{IsPermutation-refl, ranks_by, sorted_far, sum_by-IsPermutation, sum_by_pushed}

-- what holds at each place holds of each element
pub all_from : {X : Type 0} (P : X → Type 0) (xs : List X) → ((k : ℕ) (d : X) → k < length xs → P (get_or xs k d)) → AllByRecursion P xs
all_from P [] h = tt
all_from P (x ∷ xs) h = (h 0 x (omega arith), all_from P xs (λ k d l. h (suc k) d (omega (arith, l))))

module _ {X : Type 0} (cmp : X → X → Ordering) where
  -- an element does not come before another
  abbrev pub NotBefore : X → X → Type 0
  NotBefore a b = is_lt (cmp a b) ≡ false

  -- no element comes before an earlier one
  abbrev pub Rises : List X → Type 0
  Rises [] = Unit {0}
  Rises (x ∷ xs) = AllByRecursion (λ y. NotBefore y x) xs × Rises xs

  module _ (o : IsTotalOrder cmp) (apart : (a b : X) → cmp a b ≡ Equal → a ≡ b) where
    pub rises : (xs : List X) → IsSorted cmp xs → Rises xs
    rises [] h = tt
    rises (x ∷ xs) h = (
      all_from (λ y. NotBefore y x) xs (λ k d l. sorted_far (λ a b. is_lt (cmp a b)) (ranks_by o (λ a. a)) (x ∷ xs) h 0 (suc k) d (omega arith) (omega (arith, l))),
      rises xs (λ k d from l. let e : suc k + 1 ≡ suc (k + 1) = omega arith in subst (λ n. is_lt (cmp (get_or (x ∷ xs) n d) (get_or xs k d)) ≡ false) e (h (suc k) d (omega arith) (omega (arith, l)))),
    )

    both_ways : (r : Ordering) → is_lt r ≡ false → is_lt (ordering_reverse r) ≡ false → r ≡ Equal
    both_ways Less h k = cc
    both_ways Equal h k = refl
    both_ways Greater h k = cc

    level : (a b : X) → NotBefore a b → NotBefore b a → a ≡ b
    level a b h k = apart a b (both_ways (cmp a b) h (ap is_lt (sym (o.antisymm b a)) ∙ k))

    -- how often an element stands in a list
    abbrev one : X → X → ℕ
    one v y = cond {A = ℕ} (is_eq (cmp y v)) 1 0

    abbrev many : X → List X → ℕ
    many v xs = sum_by (one v) xs

    many_more : (v x : X) (xs : List X) → many v (x ∷ xs) ≡ one v x + many v xs
    many_more v x xs = sum_by_pushed (one v) x xs (x ∷ xs) (IsPermutation-refl (x ∷ xs))

    itself : (x : X) → one x x ≡ 1
    itself x = ap (λ r. cond {A = ℕ} (is_eq r) 1 0) (tied_itself o x)

    equal_is : (r : Ordering) → is_eq r ≡ true → r ≡ Equal
    equal_is Less e = cc
    equal_is Equal e = refl
    equal_is Greater e = cc

    found : (P : X → Type 0) (v : X) (xs : List X) → AllByRecursion P xs → 0 < many v xs → P v
    found P v [] h there = absurd (omega (arith, there))
    found P v (x ∷ xs) h there = by (is_eq (cmp x v)) refl (found P v xs h.1)
      where
        by : (b : Bool) → is_eq (cmp x v) ≡ b → (0 < many v xs → P v) → P v
        by true e rest = subst P (apart x v (equal_is (cmp x v) e)) h.0
        by false e rest =
            let none : one v x ≡ 0 = ap (λ b. cond {A = ℕ} b 1 0) e in
            rest (omega (arith, there, none, many_more v x xs))

    itself_not_before : (x : X) → NotBefore x x
    itself_not_before x = ap is_lt (tied_itself o x)

    pub one_list : (xs ys : List X) → Rises xs → Rises ys → ((v : X) → many v xs ≡ many v ys) → xs ≡ ys
    one_list [] [] r s h = refl
    one_list [] (y ∷ ys) r s h = absurd (omega (arith, h y, itself y, many_more y y ys))
    one_list (x ∷ xs) [] r s h = absurd (omega (arith, h x, itself x, many_more x x xs))
    one_list (x ∷ xs) (y ∷ ys) r s h =
        let x_there : 0 < many x (y ∷ ys) = omega (arith, h x, itself x, many_more x x xs) in
        let y_there : 0 < many y (x ∷ xs) = omega (arith, h y, itself y, many_more y y ys) in
        let a : NotBefore x y = found (λ v. NotBefore v y) x (y ∷ ys) (itself_not_before y, s.0) x_there in
        let b : NotBefore y x = found (λ v. NotBefore v x) y (x ∷ xs) (itself_not_before x, r.0) y_there in
        let same : x ≡ y = level x y a b in
        let rest : xs ≡ ys = one_list xs ys r.1 s.1 (λ v. omega (arith, h v, many_more v x xs, many_more v y ys, ap (one v) same)) in
        cc (same, rest)

    pub one_sorted : (xs ys : List X) → IsPermutation xs ys → Rises xs → IsSorted cmp ys → xs ≡ ys
    one_sorted xs ys p r s = one_list xs ys r (rises ys s) (λ v. sym (sum_by-IsPermutation (one v) xs ys p))

  -- ---- lists that are put together

  pub all-append : (P : X → Type 0) (xs ys : List X) → AllByRecursion P xs → AllByRecursion P ys → AllByRecursion P (xs ++ ys)
  all-append P [] ys h k = k
  all-append P (x ∷ xs) ys h k = (h.0, all-append P xs ys h.1 k)

  -- each of the second list comes after each of the first
  abbrev pub After : List X → List X → Type 0
  After [] ys = Unit {0}
  After (x ∷ xs) ys = AllByRecursion (λ y. NotBefore y x) ys × After xs ys

  pub rises-append : (xs ys : List X) → Rises xs → Rises ys → After xs ys → Rises (xs ++ ys)
  rises-append [] ys r s a = s
  rises-append (x ∷ xs) ys r s a = (all-append (λ y. NotBefore y x) xs ys r.0 a.0, rises-append xs ys r.1 s a.1)
