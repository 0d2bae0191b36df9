-- The law of the first round: whatever rows the participants put in and in which order, the entries of the closed table
-- and the links cover all linked rows.
use Rattle.std.proofs.Common.{◌≡◌, ◌<◌, ◌≤◌, ◌==◌, ◌++◌, ℕ, zero, suc, Bool, true, false, cond, filter, List, [], ◌∷◌, length, map, refl, ap, sym, subst, ◌∙◌, arith}
use Rattle.std.specs.List.{flat_map}
use Rattle.std.specs.List.Sorted.{IsPermutation}
use Rattle.std.specs.Cmp.Lexicographic.{slice_cmp}
use Rattle.std.specs.Ordering.{eq_by_cmp, nat_cmp}
use Rattle.std.proofs.lemmas.List.Concat.{flat_map-append}
use Rattle.std.proofs.lemmas.List.Elements.{filter-append}
use Rattle.std.proofs.lemmas.List.Sorted.{IsPermutation-map}
use Rattle.lock_book.specs.History.{calls_by, row_at}
use Rattle.dshash_core.specs.Cells.{partition_of}
use Rattle.dshash_core.specs.Key.{hash_of}
use Rattle.dshash_parts.specs.Replays.{calls_of_key}
use Rattle.row_blocks.specs.Blocks.{Table}
use Rattle.scan_claim.specs.Drawing.{below}
use Rattle.hash_join.specs.Filled.{RowEntry, calls_at, done_in, done_of, key_of, partition_at}
use Rattle.join_pairs.specs.declared.chains.Link.{Link}
use Rattle.join_pairs.proofs.Filters.{filter-permutation, filter-within}
use Rattle.hash_join.proofs.Parts.{is_key, key_calls, parts, row_and_before}

-- ---- lists of the callers, by their numbers

below_front : (n : ℕ) → below (suc n) ≡ 0 ∷ map suc (below n)
below_front zero = refl
below_front (suc n) = ap (λ (l : List ℕ). l ++ suc n ∷ []) (below_front n) ∙ ap (λ (l : List ℕ). 0 ∷ l) (pushed (below n))
  where
    pushed : (xs : List ℕ) → map suc xs ++ suc n ∷ [] ≡ map suc (xs ++ n ∷ [])
    pushed [] = refl
    pushed (x ∷ xs) = ap (λ (l : List ℕ). suc x ∷ l) (pushed xs)

module _ {Y : Type 0} where
  flat_suc : (f : ℕ → List Y) (xs : List ℕ) → flat_map f (map suc xs) ≡ flat_map (λ n. f (suc n)) xs
  flat_suc f [] = refl
  flat_suc f (x ∷ xs) = ap (λ (l : List Y). f (suc x) ++ l) (flat_suc f xs)

  -- the lists of all numbers below their count are all lists
  pub below_rows : {X : Type 0} (g : List X → List Y) (ps : List (List X)) → flat_map (λ n. g (row_at ps n)) (below (length ps)) ≡ flat_map g ps
  below_rows g [] = refl
  below_rows g (p ∷ ps) =
      ap (flat_map (λ n. g (row_at (p ∷ ps) n))) (below_front (length ps)) ∙ ap (λ (l : List Y). g p ++ l) (flat_suc (λ n. g (row_at (p ∷ ps) n)) (below (length ps)) ∙ below_rows g ps)

  pub flat_below : (f g : ℕ → List Y) (n : ℕ) → ((k : ℕ) → k < n → f k ≡ g k) → flat_map f (below n) ≡ flat_map g (below n)
  flat_below f g zero h = refl
  flat_below f g (suc n) h =
      flat_map-append f (below n) (n ∷ []) ∙ ap (λ (l : List Y). l ++ (f n ++ [])) (flat_below f g n (λ k l. h k (omega (arith, l)))) ∙ ap (λ (l : List Y). flat_map g (below n) ++ (l ++ [])) (h n (omega arith))
      ∙ sym (flat_map-append g (below n) (n ∷ []))

pub filter-map : {A B : Type 0} (p : B → Bool) (f : A → B) (xs : List A) → filter p (map f xs) ≡ map f (filter (λ x. p (f x)) xs)
filter-map p f [] = refl
filter-map {A = A} {B = B} p f (x ∷ xs) = by (p (f x)) (filter-map p f xs)
  where
    by : (b : Bool) → filter p (map f xs) ≡ map f (filter (λ x. p (f x)) xs) → cond {A = List B} b (f x ∷ filter p (map f xs)) (filter p (map f xs)) ≡ map f (cond {A = List A} b (x ∷ filter (λ x. p (f x)) xs) (filter (λ x. p (f x)) xs))
    by true e = ap (λ (l : List B). f x ∷ l) e
    by false e = e

pub map-map : {A B C : Type 0} (f : A → B) (g : B → C) (xs : List A) → map g (map f xs) ≡ map (λ x. g (f x)) xs
map-map f g [] = refl
map-map {C = C} f g (x ∷ xs) = ap (λ (l : List C). g (f x) ∷ l) (map-map f g xs)

map-append : {A B : Type 0} (f : A → B) (xs ys : List A) → map f (xs ++ ys) ≡ map f xs ++ map f ys
map-append f [] ys = refl
map-append {B = B} f (x ∷ xs) ys = ap (λ (l : List B). f x ∷ l) (map-append f xs ys)

-- ---- the calls of a partition

module _ (records : Table) (column : ℕ) (history : ℕ → List RowEntry) (ps : List (List Link)) (made : (n i : ℕ) → i < 128 → n < length ps → done_in (calls_by n (history i)) ≡ calls_at records column i (row_at ps n))
    (no_others : (n i : ℕ) → i < 128 → length ps ≤ n → calls_by n (history i) ≡ []) where
  abbrev pub links : List Link
  links = flat_map (λ l. l) ps

  calls_apart : (i : ℕ) (xs ys : List Link) → calls_at records column i (xs ++ ys) ≡ calls_at records column i xs ++ calls_at records column i ys
  calls_apart i xs ys =
      ap (map (λ (l : Link). (key_of records column l.row, l))) (filter-append (λ (l : Link). partition_at records column l.row == i) xs ys)
      ∙ map-append (λ (l : Link). (key_of records column l.row, l)) (filter (λ (l : Link). partition_at records column l.row == i) xs) (filter (λ (l : Link). partition_at records column l.row == i) ys)

  calls_flat : (i : ℕ) (qs : List (List Link)) → flat_map (calls_at records column i) qs ≡ calls_at records column i (flat_map (λ l. l) qs)
  calls_flat i [] = refl
  calls_flat i (q ∷ qs) = ap (λ (l : List (List ℕ × Link)). calls_at records column i q ++ l) (calls_flat i qs) ∙ sym (calls_apart i q (flat_map (λ l. l) qs))

  -- the calls that were made at a partition are those of all links there
  pub all_done : (i : ℕ) → i < 128 → IsPermutation (done_in (history i)) (calls_at records column i links)
  all_done i low =
      let mine : ℕ → List (List ℕ × Link) = λ n. done_in (calls_by n (history i)) in
      let same : flat_map mine (below (length ps)) ≡ calls_at records column i links =
      flat_below mine (λ n. calls_at records column i (row_at ps n)) (length ps) (λ n l. made n i low l) ∙ below_rows (calls_at records column i) ps ∙ calls_flat i ps in
      subst (IsPermutation (done_in (history i))) same (parts (λ (e : RowEntry). done_of e.call e.reply) (length ps) (history i) (λ n l. no_others n i low l))

  abbrev pub with_key : List ℕ → List Link
  with_key key = filter (λ (l : Link). eq_by_cmp (slice_cmp nat_cmp) key (key_of records column l.row)) links

  -- those of a key are those of the links whose row has the key
  pub key_rows : (key : List ℕ) → partition_of (hash_of key) < 128 → ((l : Link) → eq_by_cmp (slice_cmp nat_cmp) key (key_of records column l.row) ≡ true → key_of records column l.row ≡ key)
      → IsPermutation (calls_of_key key (history (partition_of (hash_of key)))) (map (λ (l : Link). (l.row, l.before)) (with_key key))
  key_rows key low same =
      let i = partition_of (hash_of key) in
      let here = λ (l : Link). partition_at records column l.row == i in
      let has = λ (l : Link). eq_by_cmp (slice_cmp nat_cmp) key (key_of records column l.row) in
      let pairs : Link → List ℕ × Link = λ l. (key_of records column l.row, l) in
      let one : filter (is_key key) (calls_at records column i links) ≡ map pairs (with_key key) =
      filter-map (is_key key) pairs (filter here links) ∙ ap (map pairs) (filter-within has here (λ l e. let k = ap (λ (z : List ℕ). partition_of (hash_of z)) (same l e) in grind (arith, k)) links) in
      let moved = IsPermutation-map row_and_before (filter (is_key key) (done_in (history i))) (filter (is_key key) (calls_at records column i links)) (filter-permutation (is_key key) (done_in (history i)) (calls_at records column i links) (all_done i low)) in
      subst (λ l. IsPermutation l (map (λ (l : Link). (l.row, l.before)) (with_key key))) (sym (key_calls key (history i)))
      (subst (IsPermutation (map row_and_before (filter (is_key key) (done_in (history i))))) (ap (map row_and_before) one ∙ map-map pairs row_and_before (with_key key)) moved)
