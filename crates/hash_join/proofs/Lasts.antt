-- What the table has under the key of a field is the last row of a chain of all linked rows with the field.
use Rattle.std.proofs.Common.{◌≡◌, ◌≢◌, ◌<◌, ◌≤◌, ◌-◌, ◌*◌, ◌&&◌, ◌++◌, ℕ, suc, Bool, true, false, cond, filter, leb, ltb, List, [], ◌∷◌, All, Option, None, length, map, replicate, refl, ap, sym, subst, ◌∙◌, arith, append-nil}
use Rattle.std.specs.FinMap as fin
use Rattle.std.specs.Cmp.{tied_itself}
use Rattle.std.specs.Cmp.Lexicographic.{nat_list_cmp_total, slice_cmp}
use Rattle.std.specs.List.{AllByRecursion, flat_map, list_all}
use Rattle.std.specs.List.Sorted.{IsPermutation}
use Rattle.std.specs.Ordering.{eq_by_cmp, is_eq, nat_cmp}
use Rattle.std.specs.Str.{bytes_eq}
use Rattle.std.proofs.lemmas.Bool.Decides.{nat_tests}
use Rattle.std.proofs.lemmas.List.{length-replicate}
use Rattle.std.proofs.lemmas.List.Elements.{All-cons, All-head, All-nil, All-tail}
use Rattle.std.proofs.lemmas.List.Sorted.{All-permutation, IsPermutation-map, IsPermutation-refl, IsPermutation-sym, IsPermutation-trans}
use Rattle.std.proofs.lemmas.Map.Lookups.{exact_bytes}
use Rattle.std.proofs.lemmas.Map.Views.{tells_apart}
use Rattle.csv_rows.specs.Records.{field_of}
use Rattle.lock_book.specs.History.{IsLegal, calls_by, row_at}
use Rattle.dshash_core.specs.Cells.{partition_of}
use Rattle.rel_pointer.specs.Bytes.{AllBytes, packed_words}
use Rattle.dshash_core.specs.Key.{hash_of}
use Rattle.dshash_parts.specs.Legal.{PartitionLegal}
use Rattle.dshash_parts.specs.Replays.{IsRun, calls_of_key}
use Rattle.dshash_parts.specs.States.{fresh}
use Rattle.dshash_parts.specs.Tables.{map_at}
use Rattle.dshash_parts.proofs.Replays.{keys_are_cells}
use Rattle.dshash_parts.proofs.Uses.{partition_low}
use Rattle.row_blocks.specs.Blocks.{Table, numbers_of}
use Rattle.join_pairs.specs.Chains.{HasChain, IsChain, IsRun as IsRowRun, before_in, last_step, number_in, rows_with}
use Rattle.hash_join.specs.Filled.{RowEntry, calls_at, done_in, key_of}
use Rattle.hash_join.specs.Probes.{fits_key, key_with, last_in}
use Rattle.hash_join.specs.Widths.{field_words, key_words}
use Rattle.join_pairs.specs.Gathered.{IsCovered, linked}
use Rattle.join_pairs.specs.Join.{IsRow, keyed}
use Rattle.join_pairs.specs.Law.{latest_first}
use Rattle.join_pairs.specs.declared.chains.Link.{Link}
use Rattle.join_pairs.proofs.Chained.{cells, latest-permutation}
use Rattle.join_pairs.proofs.Filters.{filter-none}
use Rattle.join_pairs.proofs.Keys.{bytes_same, other_bytes}
use Rattle.join_pairs.proofs.Linking.{AreOnce, linked_all}
use Rattle.hash_join.proofs.Covering.{filter-map, key_rows, links, map-map, with_key}
use Rattle.hash_join.proofs.Fits.{field_fits, packs_same}
use Rattle.hash_join.proofs.Gathers.{links_are_once, links_are_rows, rows_of}

-- ---- lists whose members are known

members_agree : {X : Type 0} (p q : X → Bool) (xs : List X) → AllByRecursion (λ x. p x ≡ q x) xs → filter p xs ≡ filter q xs
members_agree p q [] h = refl
members_agree {X = X} p q (x ∷ xs) h = ap (λ b. cond {A = List X} b (x ∷ filter p xs) (filter p xs)) h.0 ∙ ap (λ (l : List X). cond {A = List X} (q x) (x ∷ l) l) (members_agree p q xs h.1)

members_map : {X : Type 0} (P Q : X → Type 0) → ((x : X) → P x → Q x) → (xs : List X) → AllByRecursion P xs → AllByRecursion Q xs
members_map P Q f [] h = tt
members_map P Q f (x ∷ xs) h = (f x h.0, members_map P Q f xs h.1)

members_both : {X : Type 0} (P Q R : X → Type 0) → ((x : X) → P x → Q x → R x) → (xs : List X) → AllByRecursion P xs → AllByRecursion Q xs → AllByRecursion R xs
members_both P Q R f [] h k = tt
members_both P Q R f (x ∷ xs) h k = (f x h.0 k.0, members_both P Q R f xs h.1 k.1)

-- of the members that pass a test
passed : {X Y : Type 0} (P : X → Type 0) (Q : Y → Type 0) (p : X → Bool) (f : X → Y) → ((x : X) → P x → Q (f x)) → (xs : List X) → AllByRecursion P xs → All Q (map f (filter p xs))
passed P Q p f g [] h = All-nil Q
passed {X = X} P Q p f g (x ∷ xs) h = by (p x) (passed P Q p f g xs h.1)
  where
    by : (b : Bool) → All Q (map f (filter p xs)) → All Q (map f (cond {A = List X} b (x ∷ filter p xs) (filter p xs)))
    by true rest = All-cons Q (f x) (map f (filter p xs)) (g x h.0) rest
    by false rest = rest

mapped : {X Y : Type 0} (P : X → Type 0) (Q : Y → Type 0) (f : X → Y) → ((x : X) → P x → Q (f x)) → (xs : List X) → AllByRecursion P xs → All Q (map f xs)
mapped P Q f g [] h = All-nil Q
mapped P Q f g (x ∷ xs) h = All-cons Q (f x) (map f xs) (g x h.0) (mapped P Q f g xs h.1)

-- the run of a cell of rows
row_run : (s t : Option ℕ) (calls : List (ℕ × ℕ)) → IsRun last_step s calls t → IsRowRun s calls t
row_run s t [] run = run
row_run s t (e ∷ es) run = (run.0, row_run (last_step s e.0).0 t es run.1)

-- ---- bytes

bytes_pass : (xs : List ℕ) → AllBytes xs → list_all (λ b. ltb b 256) xs ≡ true
bytes_pass [] h = refl
bytes_pass (x ∷ xs) h =
    let low : x < 256 = All-head (λ b. b < 256) x xs h in
    let here : ltb x 256 ≡ true = grind (arith, low) in
    ap (λ t. t && list_all (λ b. ltb b 256) xs) here ∙ bytes_pass xs (All-tail (λ b. b < 256) x xs h)

pass_bytes : (xs : List ℕ) → list_all (λ b. ltb b 256) xs ≡ true → AllBytes xs
pass_bytes [] h = All-nil (λ b. b < 256)
pass_bytes (x ∷ xs) h = by (pass_bytes xs) (ltb x 256) refl h
  where
    by : (list_all (λ b. ltb b 256) xs ≡ true → AllBytes xs) → (t : Bool) → ltb x 256 ≡ t → (t && list_all (λ b. ltb b 256) xs) ≡ true → AllBytes (x ∷ xs)
    by rest true e k = All-cons (λ b. b < 256) x xs (grind (arith, e)) (rest k)
    by rest false e k = absurd (cc)

-- a list that fits a key is one of bytes, and has no more than there is room for
pub fits_is : (words : ℕ) (field : List ℕ) → fits_key words field ≡ true → AllBytes field × (length field ≤ 8 * (words - 1))
fits_is words field = by (list_all (λ b. ltb b 256) field) refl
  where
    by : (t : Bool) → list_all (λ b. ltb b 256) field ≡ t → (t && leb (length field) (8 * (words - 1))) ≡ true → AllBytes field × (length field ≤ 8 * (words - 1))
    by true e k = (pass_bytes field e, grind (arith, k))
    by false e k = absurd (cc)

pub is_fits : (words : ℕ) (field : List ℕ) → AllBytes field → length field ≤ 8 * (words - 1) → fits_key words field ≡ true
is_fits words field bytes few =
    let room : leb (length field) (8 * (words - 1)) ≡ true = grind (arith, few) in
    ap (λ t. t && leb (length field) (8 * (words - 1))) (bytes_pass field bytes) ∙ room

pub is_long : (words : ℕ) (field : List ℕ) → 8 * (words - 1) < length field → fits_key words field ≡ false
is_long words field many = by (list_all (λ b. ltb b 256) field)
  where
    long : leb (length field) (8 * (words - 1)) ≡ false
    long = grind (arith, many)

    by : (t : Bool) → (t && leb (length field) (8 * (words - 1))) ≡ false
    by true = long
    by false = refl

-- ---- the law

module _ (records : Table) (column : ℕ) (history : ℕ → List RowEntry) (ps : List (List Link)) (made : (n i : ℕ) → i < 128 → n < length ps → done_in (calls_by n (history i)) ≡ calls_at records column i (row_at ps n))
    (no_others : (n i : ℕ) → i < 128 → length ps ≤ n → calls_by n (history i) ≡ []) (lawful : (i : ℕ) → i < 128 → IsLegal (λ _. PartitionLegal last_step i) fresh (history i))
    (bytes : (row : ℕ) → IsRow records row → AllBytes (field_of records row column)) where
  abbrev all : List Link
  all = links records column history ps made no_others

  abbrev before : ℕ → ℕ
  before = before_in (linked all (replicate (length records) 0))

  abbrev AreRows : List Link → Type 0
  AreRows ls = AllByRecursion (λ (l : Link). IsRow records l.row) ls

  -- the key that a field has if it fits
  abbrev key_in : List ℕ → List ℕ
  key_in field = length field ∷ packed_words (field_words records column) field

  abbrev same_key : List ℕ → Link → Bool
  same_key key l = eq_by_cmp (slice_cmp nat_cmp) key (key_of records column l.row)

  key_is : (key : List ℕ) (l : Link) → same_key key l ≡ true → key_of records column l.row ≡ key
  key_is key l e = sym (tells_apart exact_bytes key (key_of records column l.row) e)

  -- the test by the key and the test by the field are one
  tests_agree : (field : List ℕ) → AllBytes field → (l : Link) → IsRow records l.row → bytes_eq (field_of records l.row column) field ≡ same_key (key_in field) l
  tests_agree field are l r = by (same_key (key_in field) l) refl
    where
      by : (b : Bool) → same_key (key_in field) l ≡ b → bytes_eq (field_of records l.row column) field ≡ b
      by true e =
          bytes_same (field_of records l.row column) field
          (packs_same (field_words records column) (field_of records l.row column) field (bytes l.row r) are (field_fits records column l.row r) (key_is (key_in field) l e))
      by false e =
          other_bytes (field_of records l.row column) field
          (λ same. let keys : key_of records column l.row ≡ key_in field = ap key_in same in
          let yes : same_key (key_in field) l ≡ true = ap (λ (k : List ℕ). eq_by_cmp (slice_cmp nat_cmp) (key_in field) k) keys ∙ ap is_eq (tied_itself nat_list_cmp_total (key_in field)) in
          let no : true ≡ false = sym yes ∙ e in absurd (cc))

  -- the chain of a field that fits
  chain_of : AreOnce all → AreRows all → (field : List ℕ) → AllBytes field
      → HasChain before records column (map (λ (l : Link). l.row) all) field (number_in (fin.get (map_at history (partition_of (hash_of (key_in field)))) (key_in field)))
  chain_of once rows field are =
      let key = key_in field in
      let i = partition_of (hash_of key) in
      let low : i < 128 = partition_low key in
      let last = fin.get (map_at history i) key in
      let calls = calls_of_key key (history i) in
      let kept = with_key records column history ps made no_others key in
      let rb : Link → ℕ × ℕ = λ l. (l.row, l.before) in
      let long : length {A = ℕ} (replicate (length records) 0) ≡ length records = length-replicate (length records) 0 in
      let same : IsPermutation calls (map rb kept) = key_rows records column history ps made no_others key low (key_is key) in
      let room = members_map (λ (l : Link). IsRow records l.row) (λ (l : Link). l.row < length (replicate (length records) 0)) (λ l r. subst (λ n. l.row < n) (sym long) r.1) all rows in
      let set = members_both (λ (l : Link). IsRow records l.row) (λ (l : Link). before l.row ≡ l.before) (λ (l : Link). (l.row ≢ 0) × (before l.row ≡ l.before)) (λ l r b. ((λ e. let no : ⊥ = omega (arith, r.0, e) in no), b)) all rows
      (linked_all all (replicate (length records) 0) once room) in
      let linked_calls : All (λ (e : ℕ × ℕ). (e.0 ≢ 0) × (before e.0 ≡ e.1)) calls =
      All-permutation (λ (e : ℕ × ℕ). (e.0 ≢ 0) × (before e.0 ≡ e.1)) (map rb kept) calls (IsPermutation-sym calls (map rb kept) same)
      (passed (λ (l : Link). (l.row ≢ 0) × (before l.row ≡ l.before)) (λ (e : ℕ × ℕ). (e.0 ≢ 0) × (before e.0 ≡ e.1)) (same_key key) rb (λ l h. h) all set) in
      let run : IsRun last_step None calls last = keys_are_cells last_step i key (history i) (lawful i low) in
      let chain = latest_first calls [] in
      let is : IsChain before (number_in last) chain = cells before calls last (row_run None last calls run) linked_calls in
      let firsts : IsPermutation (map (λ (e : ℕ × ℕ). e.0) calls) chain =
      subst (λ l. IsPermutation l chain) (append-nil (map (λ (e : ℕ × ℕ). e.0) calls)) (latest-permutation calls []) in
      let moved : IsPermutation (map (λ (e : ℕ × ℕ). e.0) calls) (map (λ (l : Link). l.row) kept) =
      subst (IsPermutation (map (λ (e : ℕ × ℕ). e.0) calls)) (map-map rb (λ (e : ℕ × ℕ). e.0) kept) (IsPermutation-map (λ (e : ℕ × ℕ). e.0) calls (map rb kept) same) in
      let rows_chain : IsPermutation (map (λ (l : Link). l.row) kept) chain =
      IsPermutation-trans (map (λ (l : Link). l.row) kept) (map (λ (e : ℕ × ℕ). e.0) calls) chain (IsPermutation-sym (map (λ (e : ℕ × ℕ). e.0) calls) (map (λ (l : Link). l.row) kept) moved) firsts in
      let with_field : rows_with records column field (map (λ (l : Link). l.row) all) ≡ map (λ (l : Link). l.row) kept =
      filter-map (λ row. bytes_eq (field_of records row column) field) (λ (l : Link). l.row) all
      ∙ ap (map (λ (l : Link). l.row)) (members_agree (λ (l : Link). bytes_eq (field_of records l.row column) field) (same_key key) all
      (members_map (λ (l : Link). IsRow records l.row) (λ (l : Link). bytes_eq (field_of records l.row column) field ≡ same_key key l) (λ l r. tests_agree field are l r) all rows)) in
      record { chain = chain; is = is; same = subst (λ l. IsPermutation l chain) (sym with_field) rows_chain }

  -- a field that does not fit is that of no row
  no_chain : AreRows all → (words : ℕ) → words ≡ key_words records column → (field : List ℕ) → fits_key words field ≡ false → HasChain before records column (map (λ (l : Link). l.row) all) field 0
  no_chain rows words is field not_fits =
      let few : words - 1 ≡ field_words records column = omega (arith, is) in
      let none : rows_with records column field (map (λ (l : Link). l.row) all) ≡ [] =
      filter-none (λ row. bytes_eq (field_of records row column) field) (map (λ (l : Link). l.row) all)
      (mapped (λ (l : Link). IsRow records l.row) (λ (row : ℕ). bytes_eq (field_of records row column) field ≡ false) (λ (l : Link). l.row)
      (λ l r. other_bytes (field_of records l.row column) field
      (λ same. let short = field_fits records column l.row r in
      let yes : fits_key words (field_of records l.row column) ≡ true = is_fits words (field_of records l.row column) (bytes l.row r) (subst (λ (n : ℕ). length (field_of records l.row column) ≤ 8 * n) (sym few) short) in
      let no : true ≡ false = sym yes ∙ (ap (fits_key words) same ∙ not_fits) in absurd (cc))) all rows) in
      record { chain = []; is = refl; same = subst (λ l. IsPermutation l []) (sym none) (IsPermutation-refl []) }

  -- the table has the last row of each field
  last_chain : AreOnce all → AreRows all → (words : ℕ) → words ≡ key_words records column → (field : List ℕ) → HasChain before records column (map (λ (l : Link). l.row) all) field (last_in (map_at history) words field)
  last_chain once rows words is field = by (fits_key words field) refl
    where
      by : (t : Bool) → fits_key words field ≡ t
          → HasChain before records column (map (λ (l : Link). l.row) all) field (cond t (number_in (fin.get (map_at history (partition_of (hash_of (key_with words field)))) (key_with words field))) 0)
      by true fits =
          let few : words - 1 ≡ field_words records column = omega (arith, is) in
          let key : key_in field ≡ key_with words field = ap (λ (n : ℕ). length field ∷ packed_words n field) (sym few) in
          subst (λ (k : List ℕ). HasChain before records column (map (λ (l : Link). l.row) all) field (number_in (fin.get (map_at history (partition_of (hash_of k))) k))) key (chain_of once rows field (fits_is words field fits).0)
      by false fits = no_chain rows words is field fits

  pub covered : (words : ℕ) → words ≡ key_words records column → (spilled : List ℕ) → IsPermutation (keyed records column (numbers_of records)) (rows_of (flat_map (λ l. l) ps) ++ spilled)
      → IsCovered records column (last_in (map_at history) words) (flat_map (λ (l : List Link). l) ps) spilled
  covered words is spilled all_rows = record {
    all = all_rows;
    chains = λ field. last_chain (links_are_once records column (flat_map (λ (l : List Link). l) ps) spilled all_rows) (links_are_rows records column (flat_map (λ (l : List Link). l) ps) spilled all_rows) words is field;
  }
