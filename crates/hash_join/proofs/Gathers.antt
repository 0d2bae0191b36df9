-- The rows of all participants together: those of all blocks are those of all links and those that found no space.
use Rattle.std.proofs.Common.{◌≡◌, ◌<◌, ◌≤◌, ◌+◌, ◌*◌, ◌++◌, not, ℕ, zero, suc, List, [], ◌∷◌, All, length, map, drop, refl, sym, subst, arith, append_assoc}
use Rattle.std.specs.List.{AllByRecursion, flat_map}
use Rattle.std.specs.List.Sorted.{IsPermutation}
use Rattle.std.proofs.lemmas.List.{map-append}
use Rattle.std.proofs.lemmas.List.Elements.{All-filter, All-nil, All-push, All-weaker, filter-append, recursion_from_All}
use Rattle.std.proofs.lemmas.List.Sorted.{All-permutation, IsPermutation-append, IsPermutation-append_right, IsPermutation-refl, IsPermutation-sym, IsPermutation-trans, sum_by-IsPermutation}
use Rattle.std.proofs.lemmas.List.Sums.{sum_by-append}
use Rattle.csv_rows.specs.Records.{field_of}
use Rattle.par_model.specs.Record.{is_null}
use Rattle.scan_claim.specs.Drawing.{below, flat, once_below, times}
use Rattle.row_blocks.proofs.Elements.{All-apart}
use Rattle.row_blocks.specs.Blocks.{Table, numbers_of, numbers_of_blocks}
use Rattle.join_pairs.specs.Join.{IsRow, keyed}
use Rattle.join_pairs.specs.declared.chains.Link.{Link}
use Rattle.join_pairs.proofs.Apart.{many_below, many_drop, many_filter, one}
use Rattle.join_pairs.proofs.Exchange.{between}
use Rattle.join_pairs.proofs.Filters.{filter-permutation}
use Rattle.join_pairs.proofs.Linking.{AreOnce, once_links}
use Rattle.row_blocks.proofs.RowNumbers.{drawn_numbers, flat_numbers}

-- ---- several participants

-- the rows of some links
abbrev pub rows_of : List Link → List ℕ
rows_of links = map (λ (l : Link). l.row) links

-- of each participant: the rows of its blocks that have a field are those of its links and those that found no space
abbrev pub AllPut : Table → ℕ → List (List ℕ) → List (List Link) → List (List ℕ) → Type 0
AllPut records column [] [] [] = Unit {0}
AllPut records column (d ∷ ds) (p ∷ ps) (s ∷ ss) = IsPermutation (keyed records column (numbers_of_blocks records d)) (rows_of p ++ s) × AllPut records column ds ps ss
AllPut records column ds ps ss = ⊥

-- two pairs of lists, by their firsts and their seconds
firsts_first : {A : Type 0} (a b c d : List A) → IsPermutation ((a ++ b) ++ (c ++ d)) ((a ++ c) ++ (b ++ d))
firsts_first a b c d =
    subst (λ l. IsPermutation l ((a ++ c) ++ (b ++ d))) (sym (append_assoc a b (c ++ d)))
    (subst (λ l. IsPermutation (a ++ (b ++ (c ++ d))) l) (sym (append_assoc a c (b ++ d)))
    (IsPermutation-append_right a (b ++ (c ++ d)) (c ++ (b ++ d)) (between b c d)))

module _ (records : Table) (column : ℕ) where
  together : (ds : List (List ℕ)) (ps : List (List Link)) (ss : List (List ℕ)) → AllPut records column ds ps ss
      → IsPermutation (keyed records column (flat_map (numbers_of_blocks records) ds)) (rows_of (flat_map (λ l. l) ps) ++ flat_map (λ l. l) ss)
  together [] [] [] h = IsPermutation-refl []
  together [] [] (s ∷ ss) h = absurd h
  together [] (p ∷ ps) ss h = absurd h
  together (d ∷ ds) [] ss h = absurd h
  together (d ∷ ds) (p ∷ ps) [] h = absurd h
  together (d ∷ ds) (p ∷ ps) (s ∷ ss) h =
      let here = numbers_of_blocks records d in
      let rest = flat_map (numbers_of_blocks records) ds in
      let links = flat_map (λ (l : List Link). l) ps in
      let spilled = flat_map (λ (l : List ℕ). l) ss in
      let whole = keyed records column here ++ keyed records column rest in
      subst (λ l. IsPermutation l (rows_of (p ++ links) ++ (s ++ spilled))) (sym (filter-append (λ row. not (is_null (field_of records row column))) here rest))
      (subst (λ l. IsPermutation whole (l ++ (s ++ spilled))) (sym (map-append (λ (l : Link). l.row) p links))
      (IsPermutation-trans whole ((rows_of p ++ s) ++ (rows_of links ++ spilled)) ((rows_of p ++ rows_of links) ++ (s ++ spilled))
      (IsPermutation-append (keyed records column here) (rows_of p ++ s) (keyed records column rest) (rows_of links ++ spilled) h.0 (together ds ps ss h.1))
      (firsts_first (rows_of p) s (rows_of links) spilled)))

  -- blocks that were drawn, each once, and are enough have all rows
  pub all_rows : (ds : List (List ℕ)) (ps : List (List Link)) (ss : List (List ℕ)) (n : ℕ) → AllPut records column ds ps ss → ((x : ℕ) → times x (flat ds) ≡ once_below x n) → length records ≤ 256 * n + 1
      → IsPermutation (keyed records column (numbers_of records)) (rows_of (flat_map (λ l. l) ps) ++ flat_map (λ l. l) ss)
  all_rows ds ps ss n h once cover =
      let test = λ (row : ℕ). not (is_null (field_of records row column)) in
      let drawn = numbers_of_blocks records (flat ds) in
      let all = rows_of (flat_map (λ (l : List Link). l) ps) ++ flat_map (λ (l : List ℕ). l) ss in
      let back : IsPermutation (keyed records column (numbers_of records)) (keyed records column drawn) =
      IsPermutation-sym (keyed records column drawn) (keyed records column (numbers_of records)) (filter-permutation test drawn (numbers_of records) (drawn_numbers records (flat ds) n once cover)) in
      IsPermutation-trans (keyed records column (numbers_of records)) (keyed records column drawn) all back
      (subst (λ l. IsPermutation (keyed records column l) all) (sym (flat_numbers records ds)) (together ds ps ss h))

  -- ---- what is known of all links

  drop_push : (xs : List ℕ) (x y : ℕ) → drop 1 ((xs ++ y ∷ []) ++ x ∷ []) ≡ drop 1 (xs ++ y ∷ []) ++ x ∷ []
  drop_push [] x y = refl
  drop_push (z ∷ zs) x y = refl

  below_rows : (n : ℕ) → All (λ k. (1 ≤ k) × (k < n)) (drop 1 (below n))
  below_rows zero = All-nil (λ k. (1 ≤ k) × (k < 0))
  below_rows (suc zero) = All-nil (λ k. (1 ≤ k) × (k < 1))
  below_rows (suc (suc n)) =
      subst (All (λ k. (1 ≤ k) × (k < suc (suc n)))) (sym (drop_push (below n) (suc n) n))
      (All-push (λ k. (1 ≤ k) × (k < suc (suc n))) (drop 1 (below (suc n))) (suc n)
      (All-weaker (λ k. (1 ≤ k) × (k < suc n)) (λ k. (1 ≤ k) × (k < suc (suc n))) (λ k l. (l.0, omega (arith, l.1))) (drop 1 (below (suc n))) (below_rows (suc n))) (omega arith, omega arith))

  pub all_are_rows : All (IsRow records) (numbers_of records)
  all_are_rows = below_rows (length records)

  module _ (links : List Link) (spilled : List ℕ) (all : IsPermutation (keyed records column (numbers_of records)) (rows_of links ++ spilled)) where
    pub links_are_rows : AllByRecursion (λ (l : Link). IsRow records l.row) links
    links_are_rows =
        let kept = All-filter (λ row. not (is_null (field_of records row column))) (IsRow records) (numbers_of records) all_are_rows in
        let moved = All-permutation (IsRow records) (keyed records column (numbers_of records)) (rows_of links ++ spilled) all kept in
        unmapped links (recursion_from_All (IsRow records) (rows_of links) (All-apart (IsRow records) (rows_of links) spilled moved).0)
      where
        unmapped : (xs : List Link) → AllByRecursion (IsRow records) (rows_of xs) → AllByRecursion (λ (l : Link). IsRow records l.row) xs
        unmapped [] h = tt
        unmapped (x ∷ xs) h = (h.0, unmapped xs h.1)

    pub links_are_once : AreOnce links
    links_are_once =
        once_links links (λ v.
        let test = λ (row : ℕ). not (is_null (field_of records row column)) in
        let same = sum_by-IsPermutation (one v) (keyed records column (numbers_of records)) (rows_of links ++ spilled) all in
        let parts = sum_by-append (one v) (rows_of links) spilled in
        omega (arith, same, parts, many_filter v test (numbers_of records), many_drop v (below (length records)) (many_below v (length records))))
