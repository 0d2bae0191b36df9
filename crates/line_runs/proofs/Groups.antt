-- The groups of a range in the maps of all parts: each once, and they are those of the range's own map.
use Rattle.std.proofs.Common.{◌≡◌, ◌<◌, ◌≤◌, ◌+◌, ◌++◌, ◌==◌, ◌∷◌, ◌∙◌, [], ap, sym, refl, subst, arith, Bool, true, false, cond, bytes_eq, filter, length, ℕ, zero, suc, List, All, Contains, None, Option, Some, get_or, map, slice_index_or}
use Rattle.std.proofs.lemmas.Bool.{eq-eqb, eqb-false, eqb-true}
use Rattle.std.proofs.lemmas.List.{map-append}
use Rattle.std.proofs.lemmas.List.Elements.{All-append, All-filter, All-head, All-nil, All-tail, filter_passes}
use Rattle.std.proofs.lemmas.List.Sorted.{Contains-permutation, IsPermutation-append, IsPermutation-cons, IsPermutation-map, IsPermutation-refl, IsPermutation-remove, IsPermutation-sym, IsPermutation-trans}
use Rattle.std.proofs.lemmas.Map.Keys.{IsDistinct-IsPermutation}
use Rattle.std.proofs.lemmas.Simd.{map-map}
use Rattle.std.proofs.lemmas.Slice.Eq.{bytes_eq-Decides}
use Rattle.std.specs.FinMap as finite
use Rattle.std.specs.List.{AllByRecursion, IsDistinct, flat_map, remove}
use Rattle.std.specs.List.Sorted.{IsPermutation}
use Rattle.par_model.specs.Plan.{Plan}
use Rattle.par_model.specs.declared.state.AggState.{AggState}
use Rattle.partial_agg.specs.Groups.{AreGroups, GroupsByKey, group_of}
use Rattle.partial_agg.specs.Listed.{group, listed}
use Rattle.partial_agg.specs.declared.groups.Group.{Group}
use Rattle.partial_agg.proofs.Entries.{Contains-found, IsDistinct-keys, behind}
use Rattle.result_text.proofs.Answering.{Contains-map}
use Rattle.result_text.proofs.Uses.{All-listed}
use Rattle.row_blocks.specs.Blocks.{Table}
use Rattle.row_blocks.proofs.Permute.{flat_map-permutation}
use Rattle.gather_law.specs.KeyParts.{groups_in}
use Rattle.gather_law.specs.Shares.{rows_in}
use Rattle.gather_law.proofs.KeyParts.{parts_together}
use Rattle.line_runs.specs.Entries.{Entry, entry_of}
use Rattle.line_runs.specs.Ranges.{entries_of, is_of, range_of}
use Rattle.line_runs.specs.Runs.{AreRunsOf}
use Rattle.line_runs.specs.declared.ranges.Ranges.{Ranges}
use Rattle.line_runs.proofs.Lines.{key_of_group}
use Rattle.line_runs.proofs.Strict.{flips}

-- the groups of a range in all maps, map by map
abbrev pub groups_of : (List ℕ → ℕ) → ℕ → List GroupsByKey → List Group
groups_of range_of' range maps = flat_map (λ m. groups_in range_of' range (listed m)) maps

-- ---- the entries of a range are those of its groups

filter_under : {X Y : Type 0} (p : Y → Bool) (f : X → Y) (xs : List X) → filter p (map f xs) ≡ map f (filter (λ x. p (f x)) xs)
filter_under p f [] = refl
filter_under {X = X} p f (x ∷ xs) = by (p (f x)) (filter_under p f xs)
  where
    by : (b : Bool) → filter p (map f xs) ≡ map f (filter (λ x. p (f x)) xs) → cond b (f x ∷ filter p (map f xs)) (filter p (map f xs)) ≡ map f (cond b (x ∷ filter (λ x. p (f x)) xs) (filter (λ x. p (f x)) xs))
    by true e = ap (λ l. f x ∷ l) e
    by false e = e

filter_flat : {X : Type 0} (p : X → Bool) (xs : List X) → flat_map (λ x. cond (p x) (x ∷ []) []) xs ≡ filter p xs
filter_flat p [] = refl
filter_flat {X = X} p (x ∷ xs) = by (p x) (filter_flat p xs)
  where
    by : (b : Bool) → flat_map (λ x. cond (p x) (x ∷ []) []) xs ≡ filter p xs → cond b (x ∷ []) [] ++ flat_map (λ x. cond (p x) (x ∷ []) []) xs ≡ cond b (x ∷ filter p xs) (filter p xs)
    by true e = ap (λ l. x ∷ l) e
    by false e = e

filter_moved : {X : Type 0} (p : X → Bool) (xs ys : List X) → IsPermutation xs ys → IsPermutation (filter p xs) (filter p ys)
filter_moved p xs ys same =
    subst (λ l. IsPermutation l (filter p ys)) (filter_flat p xs) (subst (λ l. IsPermutation (flat_map (λ x. cond (p x) (x ∷ []) []) xs) l) (filter_flat p ys) (flat_map-permutation (λ x. cond (p x) (x ∷ []) []) xs ys same))

module _ (plan : Plan) (r : Ranges) (range : ℕ) where
  pub entries_are : (maps : List GroupsByKey) (runs : List (List Entry)) → AreRunsOf plan maps runs → IsPermutation (map (entry_of plan) (groups_of (range_of r) range maps)) (entries_of r runs range)
  entries_are [] [] are = IsPermutation-refl []
  entries_are [] (run ∷ runs) are = absurd are
  entries_are (m ∷ maps) [] are = absurd are
  entries_are (m ∷ maps) (run ∷ runs) are =
      let f = entry_of plan in
      let own = groups_in (range_of r) range (listed m) in
      let here : IsPermutation (map f own) (filter (is_of r range) run) = subst (λ (l : List Entry). IsPermutation l (filter (is_of r range) run)) (filter_under (is_of r range) f (listed m)) (filter_moved (is_of r range) (map f (listed m)) run are.0.same) in
      subst (λ (l : List Entry). IsPermutation l (filter (is_of r range) run ++ entries_of r runs range)) (sym (map-append f own (groups_of (range_of r) range maps)))
      (IsPermutation-append (map f own) (filter (is_of r range) run) (map f (groups_of (range_of r) range maps)) (entries_of r runs range) here (entries_are maps runs are.1))

  pub all_short : (maps : List GroupsByKey) (runs : List (List Entry)) → AreRunsOf plan maps runs → All (λ (g : Group). length g.key ≤ 248) (groups_of (range_of r) range maps)
  all_short [] [] are = All-nil (λ (g : Group). length g.key ≤ 248)
  all_short [] (run ∷ runs) are = absurd are
  all_short (m ∷ maps) [] are = absurd are
  all_short (m ∷ maps) (run ∷ runs) are =
      All-append (λ (g : Group). length g.key ≤ 248) (groups_in (range_of r) range (listed m)) (groups_of (range_of r) range maps)
      (All-filter (λ (g : Group). range_of r g.key == range) (λ (g : Group). length g.key ≤ 248) (listed m) are.0.short) (all_short maps runs are.1)

-- ---- two lists of the same groups

abbrev pub Distinct : List Group → Type 0
Distinct groups = IsDistinct bytes_eq (map key_of_group groups)

-- no element of the list has this key
abbrev Differs : List ℕ → List Group → Type 0
Differs key groups = AllByRecursion (λ y. bytes_eq key y ≡ false) (map key_of_group groups)

uncons : {X : Type 0} (x g : X) (xs : List X) → Contains (x ∷ xs) g → (x ≡ g → Contains xs g) → Contains xs g
uncons x g xs has first = by has.0 has.1 has.2
  where
    by : (k : ℕ) → k < length (x ∷ xs) → get_or (x ∷ xs) k g ≡ g → Contains xs g
    by zero lt is = first is
    by (suc k) lt is = (k, omega (arith, lt), is)

absent : (x : Group) (groups : List Group) → Differs x.key groups → (g : Group) → Contains groups g → x ≡ g → ⊥
absent x groups differs g has same = at groups has.0 differs has.1 has.2
  where
    at : (gs : List Group) (k : ℕ) → Differs x.key gs → k < length gs → get_or gs k g ≡ g → ⊥
    at [] k d lt is = omega (arith, lt)
    at (y ∷ gs) zero d lt is =
        let yes = (bytes_eq-Decides x.key y.key).1 (ap key_of_group (same ∙ sym is)) in
        let no : true ≡ false = sym yes ∙ d.0 in
        cc
    at (y ∷ gs) (suc k) d lt is = at gs k d.1 (omega (arith, lt)) is

pub same_groups : (xs ys : List Group) → Distinct xs → Distinct ys → ((g : Group) → Contains xs g → Contains ys g) → ((g : Group) → Contains ys g → Contains xs g) → IsPermutation xs ys
unfolding IsDistinct
same_groups [] [] dx dy sub sup = IsPermutation-refl []
same_groups [] (y ∷ ys) dx dy sub sup = let none = sup y (0, omega arith, refl) in absurd (omega (arith, none.1))
same_groups (x ∷ xs) ys dx dy sub sup =
    let has = sub x (0, omega arith, refl) in
    let rest = remove ys has.0 in
    let moved : IsPermutation ys (x ∷ rest) = IsPermutation-remove ys has.0 x has.1 (sym has.2) in
    let back = IsPermutation-sym ys (x ∷ rest) moved in
    let apart : Distinct (x ∷ rest) = IsDistinct-IsPermutation bytes_eq flips (map key_of_group ys) (map key_of_group (x ∷ rest)) (IsPermutation-map key_of_group ys (x ∷ rest) moved) dy in
    let down : (g : Group) → Contains xs g → Contains rest g = λ g h. uncons x g rest (Contains-permutation ys (x ∷ rest) g moved (sub g (behind g x xs h))) (λ e. absurd (absent x xs dx.0 g h e)) in
    let up : (g : Group) → Contains rest g → Contains xs g = λ g h. uncons x g xs (sup g (Contains-permutation (x ∷ rest) ys g back (behind g x rest h))) (λ e. absurd (absent x rest apart.0 g h e)) in
    IsPermutation-trans (x ∷ xs) (x ∷ rest) ys (IsPermutation-cons x xs rest (same_groups xs rest dx.1 apart.1 down up)) back

-- ---- the maps of the parts

kept_one : (b : Bool) (o : Option AggState) (s : AggState) → cond b o None ≡ Some s → (b ≡ true) × (o ≡ Some s)
kept_one true o s e = (refl, e)
kept_one false o s e = cc

differs_filter : (p : Group → Bool) (key : List ℕ) (groups : List Group) → Differs key groups → Differs key (filter p groups)
differs_filter p key [] d = tt
differs_filter p key (g ∷ groups) d = by (p g) (differs_filter p key groups d.1)
  where
    by : (b : Bool) → Differs key (filter p groups) → Differs key (cond b (g ∷ filter p groups) (filter p groups))
    by true h = (d.0, h)
    by false h = h

distinct_filter : (p : Group → Bool) (groups : List Group) → Distinct groups → Distinct (filter p groups)
unfolding IsDistinct
distinct_filter p [] d = tt
distinct_filter p (g ∷ groups) d = by (p g) (distinct_filter p groups d.1)
  where
    by : (b : Bool) → Distinct (filter p groups) → Distinct (cond b (g ∷ filter p groups) (filter p groups))
    by true h = (differs_filter p g.key groups d.0, h)
    by false h = h

differs_append : (key : List ℕ) (xs ys : List Group) → Differs key xs → Differs key ys → Differs key (xs ++ ys)
differs_append key [] ys h k = k
differs_append key (x ∷ xs) ys h k = (h.0, differs_append key xs ys h.1 k)

module _ (plan : Plan) (part_of : List ℕ → ℕ) (rows : Table) where
  -- a group is one of the rows, and its key is of a part
  abbrev pub IsIn : ℕ → Group → Type 0
  IsIn part g = (group_of plan rows g.key ≡ Some g.state) × (part_of g.key ≡ part)

  pub all_in : (part : ℕ) (m : GroupsByKey) → AreGroups plan (rows_in plan part_of part rows) m → All (IsIn part) (listed m)
  all_in part m are k d lt =
      let g = get_or (listed m) k d in
      let found = sym (parts_together plan part_of part rows m g.key are) ∙ are.each g.key ∙ All-listed plan (rows_in plan part_of part rows) m are k d lt in
      let both = kept_one (part_of g.key == part) (group_of plan rows g.key) g.state found in
      (both.1, eqb-true (part_of g.key) part both.0)

  -- and each such group is in the map of the part
  pub is_listed : (part : ℕ) (m : GroupsByKey) → AreGroups plan (rows_in plan part_of part rows) m → (g : Group) → IsIn part g → Contains (listed m) g
  is_listed part m are g h =
      let found : finite.get m g.key ≡ Some g.state = parts_together plan part_of part rows m g.key are ∙ ap (λ (b : Bool). cond b (group_of plan rows g.key) None) (eq-eqb (part_of g.key) part h.1) ∙ h.0 in
      Contains-map group (finite.entries m) (g.key, g.state) (Contains-found m g.key g.state found)

  pub distinct_listed : (m : GroupsByKey) → Distinct (listed m)
  distinct_listed m = subst (IsDistinct bytes_eq) (sym (map-map key_of_group group (finite.entries m))) (IsDistinct-keys m)

  -- maps of the parts from one on
  abbrev AreFrom : ℕ → List GroupsByKey → Type 0
  AreFrom part maps = (k : ℕ) (d : GroupsByKey) → k < length maps → AreGroups plan (rows_in plan part_of (part + k) rows) (slice_index_or maps k d)

  first_of : (part : ℕ) (m : GroupsByKey) (maps : List GroupsByKey) → AreFrom part (m ∷ maps) → AreGroups plan (rows_in plan part_of part rows) m
  first_of part m maps are = subst (λ (n : ℕ). AreGroups plan (rows_in plan part_of n rows) m) (let e : part + 0 ≡ part = omega arith in e) (are 0 m (omega arith))

  rest_of : (part : ℕ) (m : GroupsByKey) (maps : List GroupsByKey) → AreFrom part (m ∷ maps) → AreFrom (part + 1) maps
  rest_of part m maps are k d lt = subst (λ (n : ℕ). AreGroups plan (rows_in plan part_of n rows) (slice_index_or maps k d)) (let e : part + suc k ≡ part + 1 + k = omega arith in e) (are (suc k) d (omega (arith, lt)))

  module _ (range_of' : List ℕ → ℕ) (range : ℕ) where
    abbrev pub of_range : Group → Bool
    of_range g = range_of' g.key == range

    -- what is known of a group of the range in maps from a part on
    abbrev pub IsFrom : ℕ → Group → Type 0
    IsFrom part g = (group_of plan rows g.key ≡ Some g.state) × ((part ≤ part_of g.key) × (of_range g ≡ true))

    pub all_from : (part : ℕ) (maps : List GroupsByKey) → AreFrom part maps → All (IsFrom part) (groups_of range_of' range maps)
    all_from part [] are = All-nil (IsFrom part)
    all_from part (m ∷ maps) are =
        let own = groups_in range_of' range (listed m) in
        let ins = All-filter of_range (IsIn part) (listed m) (all_in part m (first_of part m maps are)) in
        let passes = filter_passes of_range (listed m) in
        let rest = all_from (part + 1) maps (rest_of part m maps are) in
        All-append (IsFrom part) own (groups_of range_of' range maps)
        (λ k d lt. ((ins k d lt).0, (omega (arith, (ins k d lt).1), passes k d lt)))
        (λ k d lt. ((rest k d lt).0, (omega (arith, (rest k d lt).1.0), (rest k d lt).1.1)))

    -- a key of a part is none of the parts after it
    differs_from : (part : ℕ) (g : Group) (others : List Group) → part_of g.key ≡ part → All (λ (h : Group). part + 1 ≤ part_of h.key) others → Differs g.key others
    differs_from part g [] of high = tt
    differs_from part g (h ∷ others) of high =
        (by (bytes_eq g.key h.key) refl, differs_from part g others of (All-tail (λ (h : Group). part + 1 ≤ part_of h.key) h others high))
      where
        by : (b : Bool) → bytes_eq g.key h.key ≡ b → b ≡ false
        by true e = absurd (omega (arith, of, ap part_of ((bytes_eq-Decides g.key h.key).0 e), All-head (λ (h : Group). part + 1 ≤ part_of h.key) h others high))
        by false e = refl

    joined : (part : ℕ) (xs others : List Group) → Distinct xs → Distinct others → All (λ (g : Group). part_of g.key ≡ part) xs → All (λ (h : Group). part + 1 ≤ part_of h.key) others → Distinct (xs ++ others)
    unfolding IsDistinct
    joined part [] others dx dy here high = dy
    joined part (x ∷ xs) others dx dy here high = (
      differs_append x.key xs others dx.0 (differs_from part x others (All-head (λ (g : Group). part_of g.key ≡ part) x xs here) high),
      joined part xs others dx.1 dy (All-tail (λ (g : Group). part_of g.key ≡ part) x xs here) high,
    )

    pub distinct_from : (part : ℕ) (maps : List GroupsByKey) → AreFrom part maps → Distinct (groups_of range_of' range maps)
    unfolding IsDistinct
    distinct_from part [] are = tt
    distinct_from part (m ∷ maps) are =
        let own = groups_in range_of' range (listed m) in
        let ins = All-filter of_range (IsIn part) (listed m) (all_in part m (first_of part m maps are)) in
        let rest = all_from (part + 1) maps (rest_of part m maps are) in
        joined part own (groups_of range_of' range maps) (distinct_filter of_range (listed m) (distinct_listed m)) (distinct_from (part + 1) maps (rest_of part m maps are)) (λ k d lt. (ins k d lt).1) (λ k d lt. (rest k d lt).1.0)

    in_front : (xs ys : List Group) (g : Group) → Contains xs g → Contains (xs ++ ys) g
    in_front xs ys g has = by xs has.0 has.1 has.2
      where
        by : (zs : List Group) (k : ℕ) → k < length zs → get_or zs k g ≡ g → Contains (zs ++ ys) g
        by [] k lt is = absurd (omega (arith, lt))
        by (z ∷ zs) zero lt is = (0, omega arith, is)
        by (z ∷ zs) (suc k) lt is = behind g z (zs ++ ys) (by zs k (omega (arith, lt)) is)

    in_back : (xs ys : List Group) (g : Group) → Contains ys g → Contains (xs ++ ys) g
    in_back [] ys g has = has
    in_back (x ∷ xs) ys g has = behind g x (xs ++ ys) (in_back xs ys g has)

    in_filter : (xs : List Group) (g : Group) → Contains xs g → of_range g ≡ true → Contains (filter of_range xs) g
    in_filter xs g has ranged = by xs has.0 has.1 has.2
      where
        by : (zs : List Group) (k : ℕ) → k < length zs → get_or zs k g ≡ g → Contains (filter of_range zs) g
        by [] k lt is = absurd (omega (arith, lt))
        by (z ∷ zs) zero lt is = subst (λ (b : Bool). Contains (cond b (z ∷ filter of_range zs) (filter of_range zs)) g) (sym (ap of_range is ∙ ranged)) (0, omega arith, is)
        by (z ∷ zs) (suc k) lt is = more (of_range z) (by zs k (omega (arith, lt)) is)
          where
            more : (b : Bool) → Contains (filter of_range zs) g → Contains (cond b (z ∷ filter of_range zs) (filter of_range zs)) g
            more true h = behind g z (filter of_range zs) h
            more false h = h

    -- each group of the rows that is of the range and of one of the parts is there
    pub is_there : (part : ℕ) (maps : List GroupsByKey) → AreFrom part maps → (g : Group) → group_of plan rows g.key ≡ Some g.state → of_range g ≡ true → part ≤ part_of g.key → part_of g.key < part + length maps → Contains (groups_of range_of' range maps) g
    is_there part [] are g is of low high = absurd (omega (arith, low, high))
    is_there part (m ∷ maps) are g is of low high =
        by (part_of g.key == part) refl (λ other. is_there (part + 1) maps (rest_of part m maps are) g is of (omega (arith, low, other)) (omega (arith, high)))
      where
        by : (b : Bool) → (part_of g.key == part) ≡ b → ((part_of g.key ≡ part → ⊥) → Contains (groups_of range_of' range maps) g) → Contains (groups_of range_of' range (m ∷ maps)) g
        by true e further =
            in_front (groups_in range_of' range (listed m)) (groups_of range_of' range maps) g
            (in_filter (listed m) g (is_listed part m (first_of part m maps are) g (is, eqb-true (part_of g.key) part e)) of)
        by false e further = in_back (groups_in range_of' range (listed m)) (groups_of range_of' range maps) g (further (eqb-false (part_of g.key) part e))
