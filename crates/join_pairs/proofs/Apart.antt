-- Lists of numbers that stand once each, and how they are cut.
use Rattle.std.proofs.Common.{◌≡◌, ◌≢◌, ◌<◌, ◌≤◌, ◌+◌, ◌==◌, ◌++◌, ℕ, zero, suc, Bool, true, false, cond, List, [], ◌∷◌, All, drop, filter, length, take, get_or, refl, ap, sym, subst, ◌∙◌, arith, append_assoc, append-nil}
use Rattle.std.specs.List.{sum_by}
use Rattle.std.specs.List.Sorted.{IsPermutation}
use Rattle.std.proofs.lemmas.List.Elements.{All-cons, All-nil}
use Rattle.std.proofs.lemmas.List.Sorted.{IsPermutation-refl, sum_by-IsPermutation, sum_by_pushed}
use Rattle.std.proofs.lemmas.List.Sums.{sum_by-append}
use Rattle.scan_claim.specs.Drawing.{below}
use Rattle.join_pairs.specs.Gathered.{AreApart}

-- ---- counts

abbrev pub one : ℕ → ℕ → ℕ
one v y = cond {A = ℕ} (y == v) 1 0

-- how often a number stands in a list
abbrev pub many : ℕ → List ℕ → ℕ
many v xs = sum_by (one v) xs

pub itself : (v : ℕ) → one v v ≡ 1
itself v = let t : (v == v) ≡ true = grind arith in ap (λ b. cond {A = ℕ} b 1 0) t

pub many_front : (v x : ℕ) (xs : List ℕ) → many v (x ∷ xs) ≡ one v x + many v xs
many_front v x xs = sum_by_pushed (one v) x xs (x ∷ xs) (IsPermutation-refl (x ∷ xs))

-- a number that does not stand in a list is none of its elements
away_from : (v : ℕ) (xs : List ℕ) → many v xs ≡ 0 → All (λ r. r ≢ v) xs
away_from v [] h = All-nil (λ r. r ≢ v)
away_from v (x ∷ xs) h =
    All-cons (λ r. r ≢ v) x xs (λ e. let t : one v x ≡ 1 = ap (one v) e ∙ itself v in let no : ⊥ = omega (arith, t, h, many_front v x xs) in no)
    (away_from v xs (omega (arith, h, many_front v x xs)))

-- where each number stands once at most, the elements are apart
pub apart_once : (known xs : List ℕ) → ((v : ℕ) → many v (known ++ xs) ≤ 1) → AreApart known xs
apart_once known [] h = tt
apart_once known (x ∷ xs) h =
    let all : many x (known ++ x ∷ xs) ≡ many x known + many x (x ∷ xs) = sum_by-append (one x) known (x ∷ xs) in
    let none : many x known ≡ 0 = omega (arith, h x, all, many_front x x xs, itself x) in (
      away_from x known none,
      apart_once (known ++ x ∷ []) xs (λ v. subst (λ l. many v l ≤ 1) (sym (append_assoc known (x ∷ []) xs)) (h v)),
    )

-- ---- parts

-- a list that is apart stays so to its end
pub apart_rest : (known xs ys : List ℕ) → AreApart known (xs ++ ys) → AreApart (known ++ xs) ys
apart_rest known [] ys h = subst (λ l. AreApart l ys) (sym (append-nil known)) h
apart_rest known (x ∷ xs) ys h = subst (λ l. AreApart l ys) (append_assoc known (x ∷ []) xs) (apart_rest (known ++ x ∷ []) xs ys h.1)

pub apart_front : (known xs ys : List ℕ) → AreApart known (xs ++ ys) → AreApart known xs
apart_front known [] ys h = tt
apart_front known (x ∷ xs) ys h = (h.0, apart_front (known ++ x ∷ []) xs ys h.1)

-- an element is apart from all before it
pub apart_at : (known xs : List ℕ) (i x : ℕ) → i < length xs → x ≡ get_or xs i x → AreApart known xs → All (λ r. r ≢ x) (known ++ take i xs)
apart_at known [] i x h e a = absurd (omega (arith, h))
apart_at known (y ∷ ys) zero x h e a = subst (λ l. All (λ r. r ≢ x) l) (sym (append-nil known)) (subst (λ v. All (λ r. r ≢ v) known) (sym e) a.0)
apart_at known (y ∷ ys) (suc i) x h e a = subst (λ l. All (λ r. r ≢ x) l) (append_assoc known (y ∷ []) (take i ys)) (apart_at (known ++ y ∷ []) ys i x (omega (arith, h)) e a.1)

-- ---- the numbers of rows

many_none : (v n : ℕ) → n ≤ v → many v (below n) ≡ 0
many_none v zero h = refl
many_none v (suc n) h =
    let t : one v n ≡ 0 = (let f : (n == v) ≡ false = grind (arith, h) in ap (λ b. cond {A = ℕ} b 1 0) f) in
    omega (arith, sum_by-append (one v) (below n) (n ∷ []), many_front v n [], many_none v n (omega (arith, h)), t)

-- each number below n stands once at most
pub many_below : (v n : ℕ) → many v (below n) ≤ 1
many_below v zero = omega arith
many_below v (suc n) = by (n == v) refl (many_below v n)
  where
    whole : many v (below n ++ n ∷ []) ≡ many v (below n) + many v (n ∷ [])
    whole = sum_by-append (one v) (below n) (n ∷ [])

    by : (b : Bool) → (n == v) ≡ b → many v (below n) ≤ 1 → many v (below n ++ n ∷ []) ≤ 1
    by true e h =
        let same : n ≡ v = grind (arith, e) in
        let t : one v n ≡ 1 = ap (λ b. cond {A = ℕ} b 1 0) e in
        omega (arith, whole, many_front v n [], t, many_none v n (omega (arith, same)))
    by false e h =
        let t : one v n ≡ 0 = ap (λ b. cond {A = ℕ} b 1 0) e in
        omega (arith, whole, many_front v n [], t, h)

pub many_drop : (v : ℕ) (xs : List ℕ) → many v xs ≤ 1 → many v (drop 1 xs) ≤ 1
many_drop v [] h = h
many_drop v (x ∷ xs) h = omega (arith, h, many_front v x xs)

pub many_filter : (v : ℕ) (p : ℕ → Bool) (xs : List ℕ) → many v (filter p xs) ≤ many v xs
many_filter v p [] = omega arith
many_filter v p (x ∷ xs) = by (p x) (many_filter v p xs)
  where
    by : (b : Bool) → many v (filter p xs) ≤ many v xs → many v (cond {A = List ℕ} b (x ∷ filter p xs) (filter p xs)) ≤ many v (x ∷ xs)
    by true h = omega (arith, h, many_front v x xs, many_front v x (filter p xs))
    by false h = omega (arith, h, many_front v x xs)

-- rows that are those of a table, or some of them, in whatever order stand once each
pub apart_rows : (n : ℕ) (p : ℕ → Bool) (rows : List ℕ) → IsPermutation (filter p (drop 1 (below n))) rows → AreApart [] rows
apart_rows n p rows h =
    apart_once [] rows (λ v. let same = sum_by-IsPermutation (one v) (filter p (drop 1 (below n))) rows h in
    omega (arith, same, many_filter v p (drop 1 (below n)), many_drop v (below n) (many_below v n)))
