-- The rows of a batch, key by key: each group that is sent stands for the batch's rows with its key.
use Rattle.std.proofs.Common.{◌≡◌, ◌++◌, ◌&&◌, ℕ, Bool, true, false, not, cond, List, [], ◌∷◌, length, filter, None, Some, refl, ap, sym, subst, ◌∙◌, bytes_eq, All}
use Rattle.std.specs.Cmp.Lexicographic.{bytes_decides}
use Rattle.std.specs.FinMap as map
use Rattle.std.specs.FinMap.Entries.{below_all}
use Rattle.std.specs.List.{AllZip, flat_map}
use Rattle.std.specs.List.Sorted.{IsPermutation}
use Rattle.std.specs.declared.cmp.Ordering.{Ordering}
use Rattle.std.specs.declared.cmp.Ordering.TheVariants.{Less, Equal, Greater}
use Rattle.std.proofs.Math.Dec.{eqb-suc-zero}
use Rattle.std.proofs.lemmas.List.Elements.{All-filter, All-head}
use Rattle.std.proofs.lemmas.List.Sorted.{IsPermutation-append_right, IsPermutation-filter_both, IsPermutation-refl, IsPermutation-trans}
use Rattle.par_model.specs.Aggregate.{rows_of, state_of_rows}
use Rattle.par_model.specs.Keep.{is_kept}
use Rattle.par_model.specs.Key.{key_of}
use Rattle.par_model.specs.Plan.{Plan}
use Rattle.par_model.specs.declared.state.AggState.{AggState}
use Rattle.partial_agg.specs.Groups.{group_of, key_cmp}
use Rattle.partial_agg.specs.Laws.{IsGroupOf}
use Rattle.partial_agg.proofs.Adding.{grouped, ties}
use Rattle.gather_law.specs.Tuples.{Group}
use Rattle.row_blocks.specs.Blocks.{Table}

-- a group stands for some rows: these have its aggregates under its key, and no other key
abbrev pub StandsFor : Plan → Group → Table → Type 0
StandsFor plan group rows = IsGroupOf plan rows group.0 group.1

-- ---- what filters keep

pub filter_twice : {X : Type 0} (p : X → Bool) (xs : List X) → filter p (filter p xs) ≡ filter p xs
filter_twice p [] = refl
filter_twice p (x ∷ xs) = by (filter_twice p xs) (p x) refl
  where
    by : filter p (filter p xs) ≡ filter p xs → (b : Bool) → p x ≡ b → filter p (cond b (x ∷ filter p xs) (filter p xs)) ≡ cond b (x ∷ filter p xs) (filter p xs)
    by h true e = rw e (ap (λ l. x ∷ l) h)
    by h false e = h

pub filter_apart : {X : Type 0} (p q : X → Bool) (apart : (x : X) → p x ≡ true → q x ≡ false) (xs : List X) → filter q (filter p xs) ≡ []
filter_apart p q apart [] = refl
filter_apart p q apart (x ∷ xs) = by (filter_apart p q apart xs) (p x) refl
  where
    by : filter q (filter p xs) ≡ [] → (b : Bool) → p x ≡ b → filter q (cond b (x ∷ filter p xs) (filter p xs)) ≡ []
    by h true e = rw (apart x e) h
    by h false e = h

pub filter_through : {X : Type 0} (p q : X → Bool) (within : (x : X) → p x ≡ false → q x ≡ false) (xs : List X) → filter q (filter p xs) ≡ filter q xs
filter_through p q within [] = refl
filter_through p q within (x ∷ xs) = by (filter_through p q within xs) (p x) refl (q x) refl
  where
    by : filter q (filter p xs) ≡ filter q xs → (b : Bool) → p x ≡ b → (c : Bool) → q x ≡ c → filter q (cond b (x ∷ filter p xs) (filter p xs)) ≡ cond c (x ∷ filter q xs) (filter q xs)
    by h true e true d = rw d (ap (λ l. x ∷ l) h)
    by h true e false d = rw d h
    by h false e true d = let no : false ≡ true = sym (within x e) ∙ d in cc
    by h false e false d = h

both_true : (a b : Bool) → (a && b) ≡ true → (a ≡ true) × (b ≡ true)
both_true true b e = (refl, e)
both_true false b e = cc

module _ (plan : Plan) where
  abbrev has : List ℕ → List (List ℕ) → Bool
  has key row = is_kept plan row && bytes_eq (key_of plan row) key

  abbrev lacks : List ℕ → List (List ℕ) → Bool
  lacks key row = not (has key row)

  -- a row has one key
  one_key : (key q : List ℕ) → bytes_eq key q ≡ false → (row : List (List ℕ)) → has key row ≡ true → has q row ≡ false
  one_key key q differ row h =
      let parts = both_true (is_kept plan row) (bytes_eq (key_of plan row) key) h in
      let same : key_of plan row ≡ key = (bytes_decides (key_of plan row) key).0 parts.1 in
      rw (parts.0, same) differ

  stands : (rows : Table) (key : List ℕ) (state : AggState) → group_of plan rows key ≡ Some state → StandsFor plan (key, state) (rows_of plan rows key)
  stands rows key state is = record { each = λ q. by q (bytes_eq key q) refl }
    where
      by : (q : List ℕ) (b : Bool) → bytes_eq key q ≡ b → group_of plan (rows_of plan rows key) q ≡ cond b (Some state) None
      by q true e =
          ap (λ (k : List ℕ). group_of plan (rows_of plan rows key) k) (sym ((bytes_decides key q).0 e))
          ∙ ap (grouped plan) (filter_twice (has key) rows) ∙ is
      by q false e = ap (grouped plan) (filter_apart (has key) (has q) (one_key key q e) rows)

  absent : (k : List ℕ) (es : List Group) → below_all key_cmp k es ≡ true → map.find key_cmp k es ≡ None
  absent k [] h = refl
  absent k (e ∷ es) h = by (key_cmp k e.0) refl (absent k es)
    where
      by : (o : Ordering) → key_cmp k e.0 ≡ o → (below_all key_cmp k es ≡ true → map.find key_cmp k es ≡ None) → map.find key_cmp k (e ∷ es) ≡ None
      by Less is rest = rw is (rest (rw is at h))
      by Equal is rest = let no : false ≡ true = rw is at h in cc
      by Greater is rest = let no : false ≡ true = rw is at h in cc

  -- the rows without a key, once their first group is taken
  rest_found : (rows : Table) (e : Group) (es : List Group) → below_all key_cmp e.0 es ≡ true → ((q : List ℕ) → group_of plan rows q ≡ map.find key_cmp q (e ∷ es))
      → (q : List ℕ) → group_of plan (filter (lacks e.0) rows) q ≡ map.find key_cmp q es
  rest_found rows e es below found q = by (bytes_eq e.0 q) refl
    where
      by : (b : Bool) → bytes_eq e.0 q ≡ b → group_of plan (filter (lacks e.0) rows) q ≡ map.find key_cmp q es
      by true same =
          let is : e.0 ≡ q = (bytes_decides e.0 q).0 same in
          subst (λ k. group_of plan (filter (lacks e.0) rows) k ≡ map.find key_cmp k es) is
          (ap (grouped plan) (filter_apart (lacks e.0) (has e.0) (λ row h. not_lacking (has e.0 row) h) rows) ∙ sym (absent e.0 es below))
        where
          not_lacking : (b : Bool) → not b ≡ true → b ≡ false
          not_lacking true h = cc
          not_lacking false h = refl
      by false differ =
          ap (grouped plan) (filter_through (lacks e.0) (has q) (λ row h. one_key e.0 q differ row (is_lacking (has e.0 row) h)) rows)
          ∙ found q ∙ ap (λ b. cond b (Some e.1) (map.find key_cmp q es)) (ties q e.0 ∙ differ)
        where
          is_lacking : (b : Bool) → not b ≡ false → b ≡ true
          is_lacking true h = refl
          is_lacking false h = cc

  -- rows that are kept and have no group are none
  nothing : (rows : Table) → All (λ row. is_kept plan row ≡ true) rows → ((q : List ℕ) → group_of plan rows q ≡ None) → rows ≡ []
  nothing [] kept none = refl
  nothing (row ∷ rows) kept none =
      let head = All-head (λ row. is_kept plan row ≡ true) row rows kept in
      let mine : bytes_eq (key_of plan row) (key_of plan row) ≡ true = (bytes_decides (key_of plan row) (key_of plan row)).1 refl in
      let it : has (key_of plan row) row ≡ true = rw (head, mine) refl in
      let some : group_of plan (row ∷ rows) (key_of plan row) ≡ Some (state_of_rows plan (row ∷ filter (has (key_of plan row)) rows)) =
      ap (λ b. grouped plan (cond b (row ∷ filter (has (key_of plan row)) rows) (filter (has (key_of plan row)) rows))) it
      ∙ rw (eqb-suc-zero (length (filter (has (key_of plan row)) rows))) refl in
      let no : None ≡ Some (state_of_rows plan (row ∷ filter (has (key_of plan row)) rows)) = sym (none (key_of plan row)) ∙ some in
      cc

  -- the rows of each group, of which the rows are put together
  pub record Shared (rows : Table) (es : List Group) : Type 0 where
    pub lists : List Table
    pub each : AllZip (StandsFor plan) es lists
    pub same : IsPermutation rows (flat_map (λ l. l) lists)

  split : (a b : Bool) → (a && b) ≡ true → (a ≡ true) × (b ≡ true)
  split a b e = both_true a b e

  pub shared : (es : List Group) (rows : Table) → map.is_sorted key_cmp es ≡ true → All (λ row. is_kept plan row ≡ true) rows
      → ((q : List ℕ) → group_of plan rows q ≡ map.find key_cmp q es) → Shared rows es
  shared [] rows up kept found = record { lists = []; each = tt; same = subst (λ l. IsPermutation l []) (sym (nothing rows kept found)) (IsPermutation-refl []) }
  shared (e ∷ es) rows up kept found =
      let parts = split (below_all key_cmp e.0 es) (map.is_sorted key_cmp es) up in
      let rest = filter (lacks e.0) rows in
      let mine : bytes_eq e.0 e.0 ≡ true = (bytes_decides e.0 e.0).1 refl in
      let more = shared es rest parts.1 (All-filter (lacks e.0) (λ row. is_kept plan row ≡ true) rows kept) (rest_found rows e es parts.0 found) in
      record {
        lists = rows_of plan rows e.0 ∷ more.lists;
        each = (stands rows e.0 e.1 (found e.0 ∙ ap (λ b. cond b (Some e.1) (map.find key_cmp e.0 es)) (ties e.0 e.0 ∙ mine)), more.each);
        same =
            IsPermutation-trans rows (rows_of plan rows e.0 ++ rest) (rows_of plan rows e.0 ++ flat_map (λ l. l) more.lists)
            (IsPermutation-filter_both (has e.0) (lacks e.0) (λ row. refl) rows)
            (IsPermutation-append_right (rows_of plan rows e.0) rest (flat_map (λ l. l) more.lists) more.same);
      }
