-- Who is among the callers of a list that one was put into or taken out of.
use Rattle.std.proofs.Common.{◌≡◌, ℕ, Bool, true, false, not, cond, ◌&&◌, ◌||◌, ◌==◌, nat_eq, List, [], ◌∷◌, ◌++◌, sym, refl, ap, ◌∙◌, subst, eqb-true}
use Rattle.std.specs.List.{AllByRecursion, IsDistinct, filter}
use Rattle.std.specs.Set.{is_member}
use Rattle.std.specs.Cmp.{nat_eq_equiv}
use Rattle.std.proofs.lemmas.List.Folds.{list_any-append}
use Rattle.std.proofs.lemmas.Map.Made.{is_member-filter}
use Rattle.std.proofs.lemmas.Map.Keys.{IsDistinct-push}
use Rattle.par_barrier.specs.Parties.{is_among, without, are_among}

-- the test with its numbers in the order of std's sets
pub as_member : (n : ℕ) (xs : List ℕ) → is_among n xs ≡ is_member nat_eq xs n
as_member n [] = refl
as_member n (x ∷ xs) = λ i. nat_eq_equiv.symm x n i || as_member n xs i

or_false : (b : Bool) → (b || false) ≡ b
or_false true = refl
or_false false = refl

pub among-push : (m n : ℕ) (xs : List ℕ) → is_among m (xs ++ n ∷ []) ≡ (is_among m xs || (n == m))
among-push m n xs = list_any-append (λ k. k == m) xs (n ∷ []) ∙ ap (λ b. is_among m xs || b) (or_false (n == m))

or_true : (b : Bool) → (b || true) ≡ true
or_true true = refl
or_true false = refl

pub among-pushed : (n : ℕ) (xs : List ℕ) → is_among n (xs ++ n ∷ []) ≡ true
among-pushed n xs = among-push n n xs ∙ (ap (λ b. is_among n xs || b) (nat_eq_equiv.refl n) ∙ or_true (is_among n xs))

pub among-kept : (m n : ℕ) (xs : List ℕ) → is_among m xs ≡ true → is_among m (xs ++ n ∷ []) ≡ true
among-kept m n xs h = among-push m n xs ∙ ap (λ b. b || (n == m)) h

and_swap : (a b : Bool) → (a && b) ≡ (b && a)
and_swap true true = refl
and_swap true false = refl
and_swap false true = refl
and_swap false false = refl

same_test : (n m x : ℕ) → nat_eq m x ≡ true → not (m == n) ≡ not (x == n)
same_test n m x e = ap (λ (k : ℕ). not (k == n)) (eqb-true m x e)

pub among-without : (m n : ℕ) (xs : List ℕ) → is_among m (without n xs) ≡ (is_among m xs && not (m == n))
among-without m n xs = as_member m (without n xs) ∙ (is_member-filter nat_eq_equiv (λ k. not (k == n)) m (same_test n m) xs ∙ ap (λ b. b && not (m == n)) (sym (as_member m xs)))

all_cond : (P : ℕ → Type 0) (b : Bool) (x : ℕ) (xs : List ℕ) → P x → AllByRecursion P xs → AllByRecursion P (cond b (x ∷ xs) xs)
all_cond P true x xs h rest = (h, rest)
all_cond P false x xs h rest = rest

all_filter : (P : ℕ → Type 0) (p : ℕ → Bool) (xs : List ℕ) → AllByRecursion P xs → AllByRecursion P (filter p xs)
all_filter P p [] h = tt
all_filter P p (x ∷ xs) h = all_cond P (p x) x (filter p xs) h.0 (all_filter P p xs h.1)

distinct_cond : (b : Bool) (x : ℕ) (xs : List ℕ) → AllByRecursion (λ y. nat_eq x y ≡ false) xs → IsDistinct nat_eq xs → IsDistinct nat_eq (cond b (x ∷ xs) xs)
unfolding IsDistinct
distinct_cond true x xs apart rest = (apart, rest)
distinct_cond false x xs apart rest = rest

pub distinct-filter : (p : ℕ → Bool) (xs : List ℕ) → IsDistinct nat_eq xs → IsDistinct nat_eq (filter p xs)
unfolding IsDistinct
distinct-filter p [] h = tt
distinct-filter p (x ∷ xs) h = distinct_cond (p x) x (filter p xs) (all_filter _ p xs h.0) (distinct-filter p xs h.1)

pub distinct-push : (xs : List ℕ) (n : ℕ) → IsDistinct nat_eq xs → is_among n xs ≡ false → IsDistinct nat_eq (xs ++ n ∷ [])
distinct-push xs n d h = IsDistinct-push nat_eq_equiv xs n d (sym (as_member n xs) ∙ h)

pub both_are : (a b : Bool) → (a && b) ≡ true → (a ≡ true) × (b ≡ true)
both_are true b h = (refl, h)
both_are false b h = absurd (cc)

pub and_true : (a b : Bool) → a ≡ true → b ≡ true → (a && b) ≡ true
and_true a b h k = ap (λ c. c && b) h ∙ k

among_by : (n x : ℕ) (xs ys : List ℕ) → is_among x ys ≡ true → (is_among n xs ≡ true → is_among n ys ≡ true) → (b : Bool) → (x == n) ≡ b → (b || is_among n xs) ≡ true → is_among n ys ≡ true
among_by n x xs ys first rest true e m = subst (λ (k : ℕ). is_among k ys ≡ true) (eqb-true x n e) first
among_by n x xs ys first rest false e m = rest m

-- where all of the first list are among the second, each of them is
pub each_among : (xs ys : List ℕ) → are_among xs ys ≡ true → (n : ℕ) → is_among n xs ≡ true → is_among n ys ≡ true
each_among [] ys h n m = absurd (cc)
each_among (x ∷ xs) ys h n m =
    let all = both_are (is_among x ys) (are_among xs ys) h in
    among_by n x xs ys all.0 (each_among xs ys all.1 n) (x == n) refl m

pub among-first : (n : ℕ) (xs : List ℕ) → is_among n (n ∷ xs) ≡ true
among-first n xs = ap (λ b. b || is_among n xs) (nat_eq_equiv.refl n)

pub among-later : (n x : ℕ) (xs : List ℕ) → is_among n xs ≡ true → is_among n (x ∷ xs) ≡ true
among-later n x xs h = ap (λ b. (x == n) || b) h ∙ or_true (x == n)

pub all_from_each : (xs ys : List ℕ) → ((n : ℕ) → is_among n xs ≡ true → is_among n ys ≡ true) → are_among xs ys ≡ true
all_from_each [] ys h = refl
all_from_each (x ∷ xs) ys h = and_true (is_among x ys) (are_among xs ys) (h x (among-first x xs)) (all_from_each xs ys (λ n m. h n (among-later n x xs m)))
