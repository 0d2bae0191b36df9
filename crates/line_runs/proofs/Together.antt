-- The lines of all ranges, one range after another, are all lines in order.
use Rattle.std.proofs.Common.{◌≡◌, ◌<◌, ◌≤◌, ◌+◌, ◌++◌, ◌∷◌, ◌∙◌, [], ap, sym, refl, subst, arith, Bool, false, filter, length, ℕ, zero, suc, List, All, Ok, IfOk, Result, get_or, map, slice_index_or}
use Rattle.std.proofs.lemmas.Bool.{eqb-true}
use Rattle.std.proofs.lemmas.List.Elements.{All-append, All-head, All-nil, All-tail, filter-append, filter_passes}
use Rattle.std.proofs.lemmas.List.Sorted.{All-permutation, IsPermutation-append, IsPermutation-refl, IsPermutation-sym, IsPermutation-trans}
use Rattle.std.specs.List.Sorted.{IsPermutation, IsSortedBy}
use Rattle.std.specs.Ordering.{is_lt, ordering_reverse}
use Rattle.std.specs.declared.alloc.AllocError.{AllocError}
use Rattle.std.specs.declared.cmp.Ordering.TheVariants.{Less}
use Rattle.par_model.specs.Table.{columns_cmp}
use Rattle.part_run.proofs.Spread.{shares_from, spread}
use Rattle.result_text.specs.KeyColumns.{columns_in}
use Rattle.result_text.proofs.Columns.{columns_total}
use Rattle.line_runs.specs.Entries.{Entry, all_entries, comes_before}
use Rattle.line_runs.specs.Ranges.{AreInOrder, AreRangeRuns, IsRangeRun, count_of, entries_of, is_of, range_of}
use Rattle.line_runs.specs.declared.ranges.Ranges.{Ranges}
use Rattle.line_runs.proofs.Rising.{range_below, rises}

-- ---- lists that are sorted, one after another

module _ {X : Type 0} (lt : X → X → Bool) where
  tail_sorted : (x : X) (xs : List X) → IsSortedBy lt (x ∷ xs) → IsSortedBy lt xs
  tail_sorted x xs sorted k d low l =
      let e : suc k + 1 ≡ suc (k + 1) = omega arith in
      subst (λ (n : ℕ). lt (get_or (x ∷ xs) n d) (get_or xs k d) ≡ false) e (sorted (suc k) d (omega arith) (omega (arith, l)))

  cons_sorted : (x : X) (xs : List X) → ((d : X) → 0 < length xs → lt (get_or xs 0 d) x ≡ false) → IsSortedBy lt xs → IsSortedBy lt (x ∷ xs)
  cons_sorted x xs first sorted zero d low l = first d (omega (arith, l))
  cons_sorted x xs first sorted (suc k) d low l =
      let e : suc k + 1 ≡ suc (k + 1) = omega arith in
      subst (λ (n : ℕ). lt (get_or (x ∷ xs) n d) (get_or xs k d) ≡ false) (sym e) (sorted k d (omega arith) (omega (arith, l)))

  module _ (P Q : X → Type 0) (apart : (x y : X) → P x → Q y → lt y x ≡ false) (ys : List X) (all_ys : All Q ys) where
    first_of : (x : X) (xs : List X) → P x → IsSortedBy lt (x ∷ xs) → (d : X) → 0 < length (xs ++ ys) → lt (get_or (xs ++ ys) 0 d) x ≡ false
    first_of x [] of sorted d l = apart x (get_or ys 0 d) of (all_ys 0 d l)
    first_of x (z ∷ xs) of sorted d l = sorted 0 d (omega arith) (omega arith)

    pub sorted_append : (xs : List X) → All P xs → IsSortedBy lt xs → IsSortedBy lt ys → IsSortedBy lt (xs ++ ys)
    sorted_append [] all_xs of_xs of_ys = of_ys
    sorted_append (x ∷ xs) all_xs of_xs of_ys =
        cons_sorted x (xs ++ ys) (first_of x xs (All-head P x xs all_xs) of_xs) (sorted_append xs (All-tail P x xs all_xs) (tail_sorted x xs of_xs) of_ys)

-- ---- the ranges

module _ (r : Ranges) (runs : List (List Entry)) where
  entries_all : (range : ℕ) (some : List (List Entry)) → entries_of r some range ≡ filter (is_of r range) (all_entries some)
  entries_all range [] = refl
  entries_all range (run ∷ some) = ap (λ (es : List Entry). filter (is_of r range) run ++ es) (entries_all range some) ∙ sym (filter-append (is_of r range) run (all_entries some))

  -- runs of the ranges from one on
  abbrev AreFrom : ℕ → List (List Entry) → Type 0
  AreFrom k news = (i : ℕ) (d : List Entry) → i < length news → IsRangeRun r runs (k + i) (slice_index_or news i d)

  head_from : (k : ℕ) (new : List Entry) (news : List (List Entry)) → AreFrom k (new ∷ news) → IsRangeRun r runs k new
  head_from k new news are = subst (λ (n : ℕ). IsRangeRun r runs n new) (let e : k + 0 ≡ k = omega arith in e) (are 0 [] (omega arith))

  tail_from : (k : ℕ) (new : List Entry) (news : List (List Entry)) → AreFrom k (new ∷ news) → AreFrom (suc k) news
  tail_from k new news are i d lt = subst (λ (n : ℕ). IsRangeRun r runs n (slice_index_or news i d)) (let e : k + suc i ≡ suc k + i = omega arith in e) (are (suc i) d (omega (arith, lt)))

  abbrev number : Entry → ℕ
  number e = range_of r e.0

  share_is : (k : ℕ) (new : List Entry) → IsRangeRun r runs k new → IsPermutation (filter (is_of r k) (all_entries runs)) new
  share_is k new is = subst (λ (es : List Entry). IsPermutation es new) (entries_all k runs) is.same

  same_from : (k : ℕ) (news : List (List Entry)) → AreFrom k news → IsPermutation (all_entries (shares_from number (length news) k (all_entries runs))) (all_entries news)
  same_from k [] are = IsPermutation-refl []
  same_from k (new ∷ news) are =
      IsPermutation-append (filter (is_of r k) (all_entries runs)) new (all_entries (shares_from number (length news) (suc k) (all_entries runs))) (all_entries news) (share_is k new (head_from k new news are))
      (same_from (suc k) news (tail_from k new news are))

  -- the range of each line of a run
  abbrev IsOf : ℕ → Entry → Type 0
  IsOf k e = number e ≡ k

  all_of : (k : ℕ) (new : List Entry) → IsRangeRun r runs k new → All (IsOf k) new
  all_of k new is =
      All-permutation (IsOf k) (filter (is_of r k) (all_entries runs)) new (share_is k new is) (λ i d lt. eqb-true (number (get_or (filter (is_of r k) (all_entries runs)) i d)) k (filter_passes (is_of r k) (all_entries runs) i d lt))

  abbrev IsAbove : ℕ → Entry → Type 0
  IsAbove k e = k ≤ number e

  all_above : (k : ℕ) (news : List (List Entry)) → AreFrom k news → All (IsAbove k) (all_entries news)
  all_above k [] are = All-nil (IsAbove k)
  all_above k (new ∷ news) are =
      let here = all_of k new (head_from k new news are) in
      let later = all_above (suc k) news (tail_from k new news are) in
      All-append (IsAbove k) new (all_entries news) (λ i d lt. omega (arith, here i d lt)) (λ i d lt. omega (arith, later i d lt))

  abbrev columns : Entry → List (List ℕ)
  columns e = columns_in r.columns e.0

  -- what is of a later range does not come before
  not_before : (k : ℕ) (x y : Entry) → number x ≡ k → suc k ≤ number y → comes_before r.columns y x ≡ false
  not_before k x y of above =
      let less : columns_cmp (columns x) (columns y) ≡ Less = rises r x.0 y.0 (omega (arith, of, above)) in
      ap is_lt (columns_total.antisymm (columns y) (columns x) ∙ ap ordering_reverse less)

  sorted_from : (k : ℕ) (news : List (List Entry)) → AreFrom k news → IsSortedBy (comes_before r.columns) (all_entries news)
  sorted_from k [] are = λ i d low lt. absurd (omega (arith, lt))
  sorted_from k (new ∷ news) are =
      let here = head_from k new news are in
      let rest = tail_from k new news are in
      sorted_append (comes_before r.columns) (IsOf k) (IsAbove (suc k)) (not_before k) (all_entries news) (all_above (suc k) news rest) new (all_of k new here) here.sorted (sorted_from (suc k) news rest)

  in_order : (news : List (List Entry)) → length news ≡ count_of r → AreFrom 0 news → AreInOrder r.columns runs news
  in_order news many are =
      let all = all_entries runs in
      record {
        same = IsPermutation-trans all (all_entries (shares_from number (length news) 0 all)) (all_entries news)
            (IsPermutation-sym (all_entries (shares_from number (length news) 0 all)) all
            (spread number (length news) 0 all (λ i d lt. (omega arith, (let below = range_below r (get_or all i d).0 in omega (arith, below, many))))))
            (same_from 0 news are);
        sorted = sorted_from 0 news are;
      }

abbrev Made : Type 0
Made = Result (List Entry) AllocError

made_each : (P : ℕ → List Entry → Type 0) (k : ℕ) (news : List (List Entry)) (made : List Made) → Path (List Made) (map Ok news) made → ((i : ℕ) (d : Made) → i < length made → IfOk (slice_index_or made i d) (P (k + i)))
    → (length news ≡ length made) × ((i : ℕ) (d : List Entry) → i < length news → P (k + i) (slice_index_or news i d))
made_each P k [] [] is each = (refl, λ i d lt. absurd (omega (arith, lt)))
made_each P k [] (m ∷ made) is each = absurd (cc)
made_each P k (n ∷ news) [] is each = absurd (cc)
made_each P k (n ∷ news) (m ∷ made) is each =
    let head : Path Made (Ok n) m = cc in
    let tail : Path (List Made) (map Ok news) made = cc in
    let later = made_each P (suc k) news made tail (λ i d lt. subst (λ (j : ℕ). IfOk (slice_index_or made i d) (P j)) (let e : k + suc i ≡ suc k + i = omega arith in e) (each (suc i) d (omega (arith, lt)))) in
    let first : P (k + 0) n = subst (λ (o : Made). IfOk o (P (k + 0))) (sym head) (each 0 m (omega arith)) in
    (omega (arith, later.0), at first later.1)
  where
    at : P (k + 0) n → ((i : ℕ) (d : List Entry) → i < length news → P (suc k + i) (slice_index_or news i d)) → (i : ℕ) (d : List Entry) → i < suc (length news) → P (k + i) (slice_index_or (n ∷ news) i d)
    at first later zero d lt = first
    at first later (suc i) d lt = subst (λ (j : ℕ). P j (slice_index_or news i d)) (let e : suc k + i ≡ k + suc i = omega arith in e) (later i d (omega (arith, lt)))

pub made_in_order : (r : Ranges) (columns : ℕ) (runs news : List (List Entry)) (made : List Made) → r.columns ≡ columns → AreRangeRuns r runs (count_of r) made → Path (List Made) (map Ok news) made → AreInOrder columns runs news
made_in_order r columns runs news made same are is =
    let each = made_each (IsRangeRun r runs) 0 news made is (λ i d lt. subst (λ (j : ℕ). IfOk (slice_index_or made i d) (IsRangeRun r runs j)) (let e : i ≡ 0 + i = omega arith in e) (are.each i d lt)) in
    subst (λ (n : ℕ). AreInOrder n runs news) same (in_order r runs news (omega (arith, each.0, are.many)) each.1)
