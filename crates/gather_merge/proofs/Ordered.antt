-- The order of the rows is a total order that tells any two rows apart, so a sorted list of given rows is one only.
use Rattle.std.proofs.Common.{◌≡◌, ◌<◌, ◌+◌, ◌==◌, ℕ, suc, Bool, true, false, if◌then◌else◌, List, [], ◌∷◌, length, get_or, refl, ap, sym, subst, ◌∙◌, arith}
use Rattle.std.specs.Cmp.{IsTotalOrder, nat_cmp_total, on_total, ranks, then_total}
use Rattle.std.specs.Cmp.Lexicographic.{lists_total, nat_list_cmp_total}
use Rattle.std.specs.List.{AllByRecursion, sum_by}
use Rattle.std.specs.List.Sorted.{IsPermutation, IsSorted}
use Rattle.std.specs.Ordering.{MatchOrdering, is_lt, nat_cmp, ordering_reverse, ordering_then}
use Rattle.std.specs.declared.cmp.Ordering.{Ordering}
use Rattle.std.specs.declared.cmp.Ordering.TheVariants.{Less, Equal, Greater}
use Rattle.std.proofs.lemmas.List.Sorted.{IsPermutation-refl, ranks_by, sorted_far, sum_by-IsPermutation, sum_by_pushed}
use Rattle.row_blocks.specs.Blocks.{Table}
use Rattle.par_model.specs.Plan.{Plan}
use Rattle.gather_merge.specs.Order.{IsOrder, columns_at, row_cmp}

-- ---- the order of the rows

pub rows_total : (plan : Plan) (records : Table) → IsTotalOrder (row_cmp plan records)
unfolding row_cmp
rows_total plan records = then_total (on_total (columns_at plan records) (lists_total nat_list_cmp_total)) nat_cmp_total

second_level : (r s : Ordering) → ordering_then r s ≡ Equal → s ≡ Equal
second_level Less s e = cc
second_level Equal s e = e
second_level Greater s e = cc

same_number : (a b : ℕ) (r : Ordering) → MatchOrdering r (a < b) (a ≡ b) (b < a) → r ≡ Equal → a ≡ b
same_number a b Less m e = cc
same_number a b Equal m e = m
same_number a b Greater m e = cc

pub rows_apart : (plan : Plan) (records : Table) (a b : ℕ) → row_cmp plan records a b ≡ Equal → a ≡ b
unfolding row_cmp
rows_apart plan records a b e = same_number a b (nat_cmp a b) (ranks a b) (second_level _ (nat_cmp a b) e)

-- ---- one sorted list

-- a row does not come before another
abbrev pub NotBefore : (ℕ → ℕ → Ordering) → ℕ → ℕ → Type 0
NotBefore cmp a b = is_lt (cmp a b) ≡ false

module _ (cmp : ℕ → ℕ → Ordering) (o : IsTotalOrder cmp) (apart : (a b : ℕ) → cmp a b ≡ Equal → a ≡ b) where
  -- no element comes before an earlier one
  abbrev pub Rises : List ℕ → Type 0
  Rises [] = Unit {0}
  Rises (x ∷ xs) = AllByRecursion (λ y. NotBefore cmp y x) xs × Rises xs

  all_from : (P : ℕ → Type 0) (xs : List ℕ) → ((k : ℕ) (d : ℕ) → k < length xs → P (get_or xs k d)) → AllByRecursion P xs
  all_from P [] h = tt
  all_from P (x ∷ xs) h = (h 0 0 (omega arith), all_from P xs (λ k d l. h (suc k) d (omega (arith, l))))

  pub rises : (xs : List ℕ) → IsSorted cmp xs → Rises xs
  rises [] h = tt
  rises (x ∷ xs) h = (
    all_from (λ y. NotBefore cmp y x) xs (λ k d l. sorted_far (λ a b. is_lt (cmp a b)) (ranks_by o (λ a. a)) (x ∷ xs) h 0 (suc k) d (omega arith) (omega (arith, l))),
    rises xs (λ k d from l. let e : suc k + 1 ≡ suc (k + 1) = omega arith in subst (λ n. is_lt (cmp (get_or (x ∷ xs) n d) (get_or xs k d)) ≡ false) e (h (suc k) d (omega arith) (omega (arith, l)))),
  )

  both_ways : (a b : ℕ) (r : Ordering) → cmp a b ≡ r → is_lt r ≡ false → is_lt (ordering_reverse r) ≡ false → r ≡ Equal
  both_ways a b Less e h k = cc
  both_ways a b Equal e h k = refl
  both_ways a b Greater e h k = cc

  level : (a b : ℕ) → NotBefore cmp a b → NotBefore cmp b a → a ≡ b
  level a b h k = apart a b (both_ways a b (cmp a b) refl h (ap is_lt (sym (o.antisymm b a)) ∙ k))

  -- how often a number stands in a list
  abbrev one : ℕ → ℕ → ℕ
  one v y = if y == v then 1 else 0

  abbrev many : ℕ → List ℕ → ℕ
  many v xs = sum_by (one v) xs

  many_more : (v x : ℕ) (xs : List ℕ) → many v (x ∷ xs) ≡ one v x + many v xs
  many_more v x xs = sum_by_pushed (one v) x xs (x ∷ xs) (IsPermutation-refl (x ∷ xs))

  itself : (x : ℕ) → one x x ≡ 1
  itself x = grind arith

  found : (P : ℕ → Type 0) (v : ℕ) (xs : List ℕ) → AllByRecursion P xs → 0 < many v xs → P v
  found P v [] h there = absurd (omega (arith, there))
  found P v (x ∷ xs) h there = by (x == v) refl (found P v xs h.1)
    where
      by : (b : Bool) → (x == v) ≡ b → (0 < many v xs → P v) → P v
      by true e rest = let same : x ≡ v = grind (arith, e) in subst P same h.0
      by false e rest =
          let none : one v x ≡ 0 = ap (λ b. if b then 1 else 0) e in
          rest (omega (arith, there, none, many_more v x xs))

  itself_not_before : (x : ℕ) → NotBefore cmp x x
  itself_not_before x = ap is_lt (Rattle.std.specs.Cmp.tied_itself o x)

  pub one_list : (xs ys : List ℕ) → Rises xs → Rises ys → ((v : ℕ) → many v xs ≡ many v ys) → xs ≡ ys
  one_list [] [] r s h = refl
  one_list [] (y ∷ ys) r s h = absurd (omega (arith, h y, itself y, many_more y y ys))
  one_list (x ∷ xs) [] r s h = absurd (omega (arith, h x, itself x, many_more x x xs))
  one_list (x ∷ xs) (y ∷ ys) r s h =
      let x_there : 0 < many x (y ∷ ys) = omega (arith, h x, itself x, many_more x x xs) in
      let y_there : 0 < many y (x ∷ xs) = omega (arith, h y, itself y, many_more y y ys) in
      let a : NotBefore cmp x y = found (λ v. NotBefore cmp v y) x (y ∷ ys) (itself_not_before y, s.0) x_there in
      let b : NotBefore cmp y x = found (λ v. NotBefore cmp v x) y (x ∷ xs) (itself_not_before x, r.0) y_there in
      let same : x ≡ y = level x y a b in
      let rest : xs ≡ ys = one_list xs ys r.1 s.1 (λ v. omega (arith, h v, many_more v x xs, many_more v y ys, ap (one v) same)) in
      cc (same, rest)

  pub one_sorted : (xs ys zs : List ℕ) → IsPermutation zs xs → IsPermutation zs ys → IsSorted cmp xs → IsSorted cmp ys → xs ≡ ys
  one_sorted xs ys zs p q r s = one_list xs ys (rises xs r) (rises ys s) (λ v. sum_by-IsPermutation (one v) zs xs p ∙ sym (sum_by-IsPermutation (one v) zs ys q))

pub one_order : (plan : Plan) (records : Table) (xs ys : List ℕ) → IsOrder plan records xs → IsOrder plan records ys → xs ≡ ys
one_order plan records xs ys a b = one_sorted (row_cmp plan records) (rows_total plan records) (rows_apart plan records) xs ys _ a.each b.each a.rising b.rising
