-- Pairs that are sorted level by level: a run of pairs with the same word is sorted after the other.
use Rattle.std.proofs.Common.{◌≡◌, ◌≢◌, ◌<◌, ◌≤◌, ◌+◌, ◌*◌, ◌-◌, ◌%◌, ◌⊎◌, inl, inr, ◌++◌, ℕ, Bool, true, false, List, [], length, drop, take, get_or, min, nat_lt, All, MatchBool, refl, ap, ap₂, sym, subst, ◌∙◌, arith, length-append, length-drop}
use Rattle.std.specs.Cmp.{IsTotalOrder, nat_cmp_total, on_total, then_total}
use Rattle.std.specs.List.Sorted.{IsPermutation, IsSorted, IsSortedBy}
use Rattle.std.specs.Ordering.{is_lt, nat_cmp, ordering_reverse, ordering_then}
use Rattle.std.specs.declared.cmp.Ordering.{Ordering}
use Rattle.std.specs.declared.cmp.Ordering.TheVariants.{Less}
use Rattle.std.proofs.Math.Seq.{take-add}
use Rattle.std.proofs.lemmas.Bool.{cases_lt}
use Rattle.std.proofs.lemmas.List.{drop-drop, drop-map, get_or_append_left, get_or-append_right, get_or-drop, get_or-map, get_or-take, get_or_default, length-map, length-take, length-take-le, map-append, take-map, take_all}
use Rattle.std.proofs.lemmas.List.Elements.{All-drop, All-from_get_or, All-get_or, All-map, All-take, All-weaker}
use Rattle.std.proofs.lemmas.List.Sorted.{All-permutation, IsPermutation-append, IsPermutation-map, IsPermutation-refl, ranks_by, sorted_far}
use Rattle.std.proofs.lemmas.Slice.{drop-put_mid, take-put_mid}
use borrow.Rule.Slice.PartMut.{put_mid, same_len_mid}
use Rattle.gather_merge.specs.declared.sorting.Keyed.{Keyed}
use Rattle.gather_merge.specs.RowWords.{AreBytes, text_at, word}
use Rattle.gather_merge.specs.Levels.{AreTied, Follows, HaveOneWord, IsWorded, Sorts, level_cmp, pair_cmp, rows_of, word_of_pair}
use Rattle.gather_merge.proofs.Levels.{level_done, level_less, level_next, level_whole}

abbrev pub none : Keyed
none = record { word = 0; row = 0 }

abbrev row_at : List Keyed → ℕ → ℕ
row_at run k = (get_or run k none).row

pub pairs_total : IsTotalOrder pair_cmp
pairs_total = then_total (on_total (λ (k : Keyed). k.word) nat_cmp_total) (on_total (λ (k : Keyed). k.row) nat_cmp_total)

not_below : (a b c d : ℕ) → is_lt (ordering_then (nat_cmp a b) (nat_cmp c d)) ≡ false → b ≤ a
not_below a b c d e = grind (arith, e)

-- ---- words that rise

pub words_rise : (run : List Keyed) → IsSorted pair_cmp run → (i j : ℕ) → i ≤ j → j < length run → word_of_pair run i ≤ word_of_pair run j
words_rise run up i j l within =
    not_below (word_of_pair run j) (word_of_pair run i) (row_at run j) (row_at run i)
    (sorted_far (λ x y. is_lt (pair_cmp x y)) (ranks_by pairs_total (λ (k : Keyed). k)) run up i j none l within)

-- ---- sorted lists behind one another

module _ (cmp : ℕ → ℕ → Ordering) where
  abbrev Not : ℕ → ℕ → Type 0
  Not a b = is_lt (cmp a b) ≡ false

  pub sorted_append : (xs ys : List ℕ) → IsSorted cmp xs → IsSorted cmp ys → All (λ x. All (λ y. Not y x) ys) xs → IsSorted cmp (xs ++ ys)
  sorted_append xs ys p q after k d from l = by (cases_lt (k + 1) (length xs)) (cases_lt k (length xs))
    where
      long : length (xs ++ ys) ≡ length xs + length ys
      long = length-append xs ys

      right : (i : ℕ) → length xs ≤ i → get_or (xs ++ ys) i d ≡ get_or ys (i - length xs) d
      right i h = get_or-append_right xs ys (length xs) i d refl h

      by : (k + 1 < length xs) ⊎ (length xs ≤ k + 1) → (k < length xs) ⊎ (length xs ≤ k) → Not (get_or (xs ++ ys) (k + 1) d) (get_or (xs ++ ys) k d)
      by (inl h) g = ap₂ (λ a b. is_lt (cmp a b)) (get_or_append_left xs ys d (k + 1) h) (get_or_append_left xs ys d k (omega (arith, h))) ∙ p k d (omega arith) h
      by (inr h) (inl g) =
          ap₂ (λ a b. is_lt (cmp a b)) (right (k + 1) h) (get_or_append_left xs ys d k g)
          ∙ All-get_or (λ y. Not y (get_or xs k d)) ys (k + 1 - length xs) d (omega (arith, l, long, h)) (All-get_or (λ x. All (λ y. Not y x) ys) xs k d g after)
      by (inr h) (inr g) =
          let next : k + 1 - length xs ≡ (k - length xs) + 1 = omega (arith, g) in
          ap₂ (λ a b. is_lt (cmp a b)) (right (k + 1) h ∙ ap (λ n. get_or ys n d) next) (right k g) ∙ q (k - length xs) d (omega arith) (omega (arith, l, long, g))

  -- ---- a level

  -- a row with a lesser word comes before
  abbrev pub Strict : List Keyed → Type 0
  Strict s = (i j : ℕ) → i < length s → j < length s → word_of_pair s i < word_of_pair s j → cmp (row_at s i) (row_at s j) ≡ Less

  -- the pairs up to a place are in order, and the others are as the words left them
  pub record LevelDone (s run : List Keyed) (from : ℕ) : Type 0 where
    pub within : from ≤ length s
    pub long : length run ≡ length s
    pub same : drop from run ≡ drop from s
    pub done : Sorts cmp (rows_of (take from s)) (rows_of (take from run))
    pub edge : (i j : ℕ) → i < from → from ≤ j → j < length s → word_of_pair s i < word_of_pair s j

  pub level_none : (s : List Keyed) → LevelDone s s 0
  level_none s = record { within = omega arith; long = refl; same = refl; done = record { each = IsPermutation-refl []; rising = λ k d f l. absurd (omega (arith, l)) }; edge = λ i j l f w. absurd (omega (arith, l)) }

  turned : (a b : ℕ) → IsTotalOrder cmp → cmp a b ≡ Less → Not b a
  turned a b o e = ap is_lt (o.antisymm b a ∙ ap ordering_reverse e)

  module _ (o : IsTotalOrder cmp) (s run part : List Keyed) (from to : ℕ) (up : IsSorted pair_cmp s) (strict : Strict s) (inv : LevelDone s run from) (more : from < to) (within : to ≤ length run)
      (same : (k : ℕ) → from ≤ k → k < to → word_of_pair run k ≡ word_of_pair run from) (other : to < length run → word_of_pair run to ≢ word_of_pair run from)
      (long : length part ≡ to - from) (sorted : Sorts cmp (rows_of (take (to - from) (drop from run))) (rows_of part)) where
    there : (k : ℕ) → from ≤ k → get_or run k none ≡ get_or s k none
    there k l =
        let e : from + (k - from) ≡ k = omega (arith, l) in
        ap (λ n. get_or run n none) (sym e) ∙ sym (get_or-drop from run (k - from) none) ∙ ap (λ xs. get_or xs (k - from) none) inv.same ∙ get_or-drop from s (k - from) none ∙ ap (λ n. get_or s n none) e

    word_there : (k : ℕ) → from ≤ k → word_of_pair run k ≡ word_of_pair s k
    word_there k l = ap (λ (p : Keyed). p.word) (there k l)

    abbrev pub new : List Keyed
    new = put_mid from (to - from) run part

    edge : (i j : ℕ) → i < to → to ≤ j → j < length s → word_of_pair s i < word_of_pair s j
    edge i j l f w = by (cases_lt i from)
      where
        by : (i < from) ⊎ (from ≤ i) → word_of_pair s i < word_of_pair s j
        by (inl h) = inv.edge i j h (omega (arith, more, f)) w
        by (inr h) =
            let first : word_of_pair s i ≡ word_of_pair s from = sym (word_there i h) ∙ same i h l ∙ word_there from (omega arith) in
            let next : word_of_pair s to ≢ word_of_pair s from = λ e. other (omega (arith, f, w, inv.long)) (word_there to (omega (arith, more)) ∙ e ∙ sym (word_there from (omega arith))) in
            let low : word_of_pair s from ≤ word_of_pair s to = words_rise s up from to (omega (arith, more)) (omega (arith, f, w)) in
            let high : word_of_pair s to ≤ word_of_pair s j = words_rise s up to j f w in
            omega (arith, first, next, low, high)

    abbrev middle : List Keyed
    middle = take (to - from) (drop from s)

    cut : take to s ≡ take from s ++ middle
    cut = let e : from + (to - from) ≡ to = omega (arith, more) in ap (λ n. take n s) (sym e) ∙ take-add from (to - from) s

    sorted_middle : Sorts cmp (rows_of middle) (rows_of part)
    sorted_middle = subst (λ xs. Sorts cmp (rows_of (take (to - from) xs)) (rows_of part)) inv.same sorted

    long_middle : length middle ≡ to - from
    long_middle = length-take-le (to - from) (drop from s) (omega (arith, length-drop from s, within, inv.long))

    before : (i j : ℕ) → i < from → j < to - from → Not (get_or middle j none).row (get_or (take from s) i none).row
    before i j l m =
        let left : get_or (take from s) i none ≡ get_or s i none = get_or-take from s i none l in
        let right : get_or middle j none ≡ get_or s (from + j) none = get_or-take (to - from) (drop from s) j none m ∙ get_or-drop from s j none in
        let less : word_of_pair s i < word_of_pair s (from + j) = inv.edge i (from + j) l (omega arith) (omega (arith, m, within, inv.long)) in
        ap₂ (λ (x y : Keyed). is_lt (cmp x.row y.row)) right left
        ∙ turned (row_at s i) (row_at s (from + j)) o (strict i (from + j) (omega (arith, l, inv.within)) (omega (arith, m, within, inv.long)) less)

    all_before : All (λ a. All (λ b. Not b a) (rows_of middle)) (rows_of (take from s))
    all_before =
        All-map (λ a. All (λ b. Not b a) (rows_of middle)) (λ (k : Keyed). k.row) (take from s)
        (All-from_get_or (λ (x : Keyed). All (λ b. Not b x.row) (rows_of middle)) (take from s) none (λ i l.
        All-map (λ b. Not b (get_or (take from s) i none).row) (λ (k : Keyed). k.row) middle
        (All-from_get_or (λ (y : Keyed). Not y.row (get_or (take from s) i none).row) middle none (λ j m. before i j (omega (arith, l, length-take-le from s inv.within)) (omega (arith, m, long_middle))))))

    put_before : All (λ a. All (λ b. Not b a) (rows_of part)) (rows_of (take from run))
    put_before =
        All-permutation (λ a. All (λ b. Not b a) (rows_of part)) (rows_of (take from s)) (rows_of (take from run)) inv.done.each
        (All-weaker (λ a. All (λ b. Not b a) (rows_of middle)) (λ a. All (λ b. Not b a) (rows_of part)) (λ a. All-permutation (λ b. Not b a) (rows_of middle) (rows_of part) sorted_middle.each) (rows_of (take from s)) all_before)

    pub level_more : LevelDone s new to
    level_more =
        let here : from ≤ length run = omega (arith, more, within) in
        let front : take to new ≡ take from run ++ part = take-put_mid from (to - from) run part to (omega (arith, long, more)) here in
        let old_rows : rows_of (take to s) ≡ rows_of (take from s) ++ rows_of middle = ap rows_of cut ∙ map-append (λ (k : Keyed). k.row) (take from s) middle in
        let new_rows : rows_of (take to new) ≡ rows_of (take from run) ++ rows_of part = ap rows_of front ∙ map-append (λ (k : Keyed). k.row) (take from run) part in
        let e : from + (to - from) ≡ to = omega (arith, more) in
        let back : drop to new ≡ drop to s =
        drop-put_mid from (to - from) run part to (omega (arith, more)) here long ∙ ap (λ n. drop n run) (sym e) ∙ sym (drop-drop (to - from) from run) ∙ ap (drop (to - from)) inv.same ∙ drop-drop (to - from) from s
        ∙ ap (λ n. drop n s) e in
        record {
          within = omega (arith, within, inv.long);
          long = same_len_mid from (to - from) run part (long ∙ sym (length-take-le (to - from) (drop from run) (omega (arith, length-drop from run, within)))) ∙ inv.long;
          same = back;
          done = record {
            each = subst (λ xs. IsPermutation xs (rows_of (take to new))) (sym old_rows) (subst (IsPermutation (rows_of (take from s) ++ rows_of middle)) (sym new_rows) (IsPermutation-append _ _ _ _ inv.done.each sorted_middle.each));
            rising = subst (IsSorted cmp) (sym new_rows) (sorted_append (rows_of (take from run)) (rows_of part) inv.done.rising sorted_middle.rising put_before);
          };
          edge = edge;
        }

  pub level_end : (s run : List Keyed) (from : ℕ) → LevelDone s run from → length run ≤ from → Sorts cmp (rows_of s) (rows_of run)
  level_end s run from inv h =
      subst (λ xs. Sorts cmp (rows_of xs) (rows_of run)) (take_all from s (omega (arith, h, inv.long))) (subst (λ xs. Sorts cmp (rows_of (take from s)) (rows_of xs)) (take_all from run h) inv.done)

  -- ---- a run of pairs with the same word

  -- what the words tell of a row's place is said of each pair of rows
  abbrev Each : (ℕ → ℕ → Type 0) → List ℕ → Type 0
  Each P rows = All (λ a. All (P a) rows) rows

  each_at : (P : ℕ → ℕ → Type 0) (s : List Keyed) (i j : ℕ) → i < length s → j < length s → Each P (rows_of s) → P (row_at s i) (row_at s j)
  each_at P s i j l m t =
      let f : Keyed → ℕ = λ (k : Keyed). k.row in
      let long = length-map s f in
      let one : All (P (get_or (rows_of s) i 0)) (rows_of s) = All-get_or (λ a. All (P a) (rows_of s)) (rows_of s) i 0 (omega (arith, long, l)) t in
      let two : P (get_or (rows_of s) i 0) (get_or (rows_of s) j 0) = All-get_or (P (get_or (rows_of s) i 0)) (rows_of s) j 0 (omega (arith, long, m)) one in
      subst (λ a. P a (row_at s j)) (get_or-map f s i none 0 l) (subst (P (get_or (rows_of s) i 0)) (get_or-map f s j none 0 m) two)

  each_from : (P : ℕ → ℕ → Type 0) (s : List Keyed) → ((i j : ℕ) → i < length s → j < length s → P (row_at s i) (row_at s j)) → Each P (rows_of s)
  each_from P s h =
      All-map (λ a. All (P a) (rows_of s)) (λ (k : Keyed). k.row) s (All-from_get_or (λ (x : Keyed). All (P x.row) (rows_of s)) s none
      (λ i l. All-map (P (row_at s i)) (λ (k : Keyed). k.row) s (All-from_get_or (λ (y : Keyed). P (row_at s i) y.row) s none (λ j m. h i j l m))))

  each_part : (P : ℕ → ℕ → Type 0) (s : List Keyed) (from n : ℕ) → Each P (rows_of s) → Each P (rows_of (take n (drop from s)))
  each_part P s from n t =
      let cut : take n (drop from (rows_of s)) ≡ rows_of (take n (drop from s)) = ap (take n) (drop-map (λ (k : Keyed). k.row) from s) ∙ take-map (λ (k : Keyed). k.row) n (drop from s) in
      let some : (Q : ℕ → Type 0) → All Q (rows_of s) → All Q (take n (drop from (rows_of s))) = λ Q a. All-take Q n (drop from (rows_of s)) (All-drop Q from (rows_of s) a) in
      subst (Each P) cut (All-weaker (λ a. All (P a) (rows_of s)) (λ a. All (P a) (take n (drop from (rows_of s)))) (λ a. some (P a)) (take n (drop from (rows_of s))) (some (λ a. All (P a) (rows_of s)) t))

  each_moved : (P : ℕ → ℕ → Type 0) (xs ys : List ℕ) → IsPermutation xs ys → Each P xs → Each P ys
  each_moved P xs ys p t = All-permutation (λ a. All (P a) ys) xs ys p (All-weaker (λ a. All (P a) xs) (λ a. All (P a) ys) (λ a. All-permutation (P a) xs ys p) xs t)

  pub sorted_rows : (t : List Keyed) → IsSortedBy (λ (x y : Keyed). is_lt (cmp x.row y.row)) t → IsSorted cmp (rows_of t)
  sorted_rows t up k d from l =
      let f : Keyed → ℕ = λ (x : Keyed). x.row in
      let long = length-map t f in
      ap₂ (λ a b. is_lt (cmp a b)) (get_or-map f t (k + 1) none d (omega (arith, l, long))) (get_or-map f t k none d (omega (arith, l, long))) ∙ up k none from (omega (arith, l, long))

  by_number : (w v r s : ℕ) → w ≡ v → is_lt (ordering_then (nat_cmp w v) (nat_cmp r s)) ≡ false → is_lt (nat_cmp r s) ≡ false
  by_number w v r s e h = grind (arith, e, h)

  -- pairs with one word, whose rows compare by their numbers, are in order
  pub in_order : (t : List Keyed) → IsSorted pair_cmp t → HaveOneWord t → Each (λ a b. cmp a b ≡ nat_cmp a b) (rows_of t) → Sorts cmp (rows_of t) (rows_of t)
  in_order t up one numbers = record {
    each = IsPermutation-refl (rows_of t);
    rising = sorted_rows t (λ k d from l. up_at k d from l);
  }
    where
      up_at : (k : ℕ) (d : Keyed) → 0 ≤ k → k + 1 < length t → is_lt (cmp (get_or t (k + 1) d).row (get_or t k d).row) ≡ false
      up_at k d from l =
          let here : get_or t k d ≡ get_or t k none = get_or_default t k d none (omega (arith, l)) in
          let next : get_or t (k + 1) d ≡ get_or t (k + 1) none = get_or_default t (k + 1) d none l in
          ap₂ (λ (x y : Keyed). is_lt (cmp x.row y.row)) next here
          ∙ ap is_lt (each_at (λ a b. cmp a b ≡ nat_cmp a b) t (k + 1) k l (omega (arith, l)) numbers)
          ∙ by_number (word_of_pair t (k + 1)) (word_of_pair t k) (row_at t (k + 1)) (row_at t k) (one (k + 1) l ∙ sym (one k (omega (arith, l)))) (up k none from l)

  pub alone : (t : List Keyed) → length t ≡ 1 → Sorts cmp (rows_of t) (rows_of t)
  alone t h = record { each = IsPermutation-refl (rows_of t); rising = λ k d from l. absurd (omega (arith, l, h, length-map t (λ (x : Keyed). x.row))) }

  -- ---- a part of a level

  sorted_part : (s : List Keyed) (from n : ℕ) → IsSorted pair_cmp s → IsSorted pair_cmp (take n (drop from s))
  sorted_part s from n up k d f l =
      let long : length (take n (drop from s)) ≡ min n (length (drop from s)) = length-take n (drop from s) in
      let rest = length-drop from s in
      let at : (i : ℕ) → i < length (take n (drop from s)) → get_or (take n (drop from s)) i d ≡ get_or s (from + i) d =
      λ i h. get_or-take n (drop from s) i d (omega (arith, h, long)) ∙ get_or-drop from s i d in
      let next : from + (k + 1) ≡ from + k + 1 = omega arith in
      ap₂ (λ x y. is_lt (pair_cmp x y)) (at (k + 1) l ∙ ap (λ i. get_or s i d) next) (at k (omega (arith, l))) ∙ up (from + k) d (omega arith) (omega (arith, l, long, rest))

  module _ (s run : List Keyed) (from n : ℕ) (inv : LevelDone s run from) where
    pub part_all : (P : Keyed → Type 0) → All P s → All P (take n (drop from run))
    part_all P a = All-take P n (drop from run) (subst (All P) (sym inv.same) (All-drop P from s a))

    part_each : (P : ℕ → ℕ → Type 0) → Each P (rows_of s) → Each P (rows_of (take n (drop from run)))
    part_each P a = subst (λ xs. Each P (rows_of (take n xs))) (sym inv.same) (each_part P s from n a)

    pub part_sorted : IsSorted pair_cmp s → IsSorted pair_cmp (take n (drop from run))
    part_sorted up = subst (λ xs. IsSorted pair_cmp (take n xs)) (sym inv.same) (sorted_part s from n up)

  pub moved_tied : (columns : ℕ → List (List ℕ)) (c o : ℕ) (s t : List Keyed) → IsPermutation s t → AreTied cmp columns c o (rows_of s) → AreTied cmp columns c o (rows_of t)
  moved_tied columns c o s t p a = each_moved (λ a b. cmp a b ≡ level_cmp columns c o a b) (rows_of s) (rows_of t) (IsPermutation-map (λ (k : Keyed). k.row) s t p) a

  pub part_tied : (columns : ℕ → List (List ℕ)) (c o : ℕ) (s run : List Keyed) (from n : ℕ) → LevelDone s run from → AreTied cmp columns c o (rows_of s) → AreTied cmp columns c o (rows_of (take n (drop from run)))
  part_tied columns c o s run from n inv a = part_each s run from n inv (λ a b. cmp a b ≡ level_cmp columns c o a b) a

  pub part_long : (run : List Keyed) (from to : ℕ) → from < to → to ≤ length run → length (take (to - from) (drop from run)) ≡ to - from
  part_long run from to more within = length-take-le (to - from) (drop from run) (omega (arith, length-drop from run, within))

  pub part_one : (run : List Keyed) (from to : ℕ) → from < to → to ≤ length run → ((k : ℕ) → from ≤ k → k < to → word_of_pair run k ≡ word_of_pair run from) → HaveOneWord (take (to - from) (drop from run))
  part_one run from to more within same k l =
      let long : length (take (to - from) (drop from run)) ≡ to - from = length-take-le (to - from) (drop from run) (omega (arith, length-drop from run, within)) in
      let at : (i : ℕ) → i < to - from → word_of_pair (take (to - from) (drop from run)) i ≡ word_of_pair run (from + i) =
      λ i h. ap (λ (p : Keyed). p.word) (get_or-take (to - from) (drop from run) i none h ∙ get_or-drop from run i none) in
      let zero_on : from + 0 ≡ from = omega arith in
      at k (omega (arith, l, long)) ∙ same (from + k) (omega arith) (omega (arith, l, long)) ∙ sym (at 0 (omega (arith, more)) ∙ ap (word_of_pair run) zero_on)

  -- ---- the levels of columns

  module _ (columns : ℕ → List (List ℕ)) (width : ℕ) (even : (row : ℕ) → length (columns row) ≡ width) where
    pub strict_of : (c o : ℕ) (s : List Keyed) → All (IsWorded columns c o) s → AreTied cmp columns c o (rows_of s) → Strict s
    strict_of c o s w t i j l m less =
        let x = All-get_or (IsWorded columns c o) s i none l w in
        let y = All-get_or (IsWorded columns c o) s j none m w in
        each_at (λ a b. cmp a b ≡ level_cmp columns c o a b) s i j l m t ∙ level_less columns width even c o (row_at s i) (row_at s j) x.bytes y.bytes (omega (arith, less, x.is, y.is))

    tied_on : (c o d p : ℕ) (s : List Keyed) → All (IsWorded columns c o) s → HaveOneWord s → AreTied cmp columns c o (rows_of s)
        → ((a b : ℕ) → AreBytes (text_at columns c o a) → AreBytes (text_at columns c o b) → word (text_at columns c o a) ≡ word (text_at columns c o b) → word (text_at columns c o a) ≡ word_of_pair s 0
        → level_cmp columns c o a b ≡ level_cmp columns d p a b)
        → AreTied cmp columns d p (rows_of s)
    tied_on c o d p s w one t step =
        each_from (λ a b. cmp a b ≡ level_cmp columns d p a b) s (λ i j l m.
        let x = All-get_or (IsWorded columns c o) s i none l w in
        let y = All-get_or (IsWorded columns c o) s j none m w in
        each_at (λ a b. cmp a b ≡ level_cmp columns c o a b) s i j l m t
        ∙ step (row_at s i) (row_at s j) x.bytes y.bytes (sym x.is ∙ one i l ∙ sym (one j m) ∙ y.is) (sym x.is ∙ one i l))

    pub tied_next : (c o : ℕ) (s : List Keyed) → All (IsWorded columns c o) s → HaveOneWord s → AreTied cmp columns c o (rows_of s) → AreTied cmp columns c (o + 7) (rows_of s)
    tied_next c o s w one t = tied_on c o c (o + 7) s w one t (λ a b p q e f. level_next columns width even c o a b p q e)

    pub tied_whole : (c o : ℕ) (s : List Keyed) → All (IsWorded columns c o) s → HaveOneWord s → AreTied cmp columns c o (rows_of s) → word_of_pair s 0 % 256 < 8 → AreTied cmp columns (c + 1) 0 (rows_of s)
    tied_whole c o s w one t whole = tied_on c o (c + 1) 0 s w one t (λ a b p q e f. level_whole columns width even c o a b p q e (subst (λ n. n % 256 < 8) (sym f) whole))

    pub tied_follows : (c o d p : ℕ) (s : List Keyed) → All (IsWorded columns c o) s → HaveOneWord s → AreTied cmp columns c o (rows_of s) → Follows (word_of_pair s 0) c o d p → AreTied cmp columns d p (rows_of s)
    tied_follows c o d p s w one t f = by (nat_lt (word_of_pair s 0 % 256) 8) refl f
      where
        by : (b : Bool) → nat_lt (word_of_pair s 0 % 256) 8 ≡ b → MatchBool b ((d ≡ c + 1) × (p ≡ 0)) ((d ≡ c) × (p ≡ o + 7)) → AreTied cmp columns d p (rows_of s)
        by true e f = let whole : word_of_pair s 0 % 256 < 8 = grind (arith, e) in subst (λ q. AreTied cmp columns d q (rows_of s)) (sym f.1) (subst (λ q. AreTied cmp columns q 0 (rows_of s)) (sym f.0) (tied_whole c o s w one t whole))
        by false e f = subst (λ q. AreTied cmp columns d q (rows_of s)) (sym f.1) (subst (λ q. AreTied cmp columns q (o + 7) (rows_of s)) (sym f.0) (tied_next c o s w one t))

    -- rows that are the same in all columns are in order by their numbers
    pub numbers_decide : (c o : ℕ) (s : List Keyed) → width ≤ c → AreTied cmp columns c o (rows_of s) → Each (λ a b. cmp a b ≡ nat_cmp a b) (rows_of s)
    numbers_decide c o s h t = each_from (λ a b. cmp a b ≡ nat_cmp a b) s (λ i j l m. each_at (λ a b. cmp a b ≡ level_cmp columns c o a b) s i j l m t ∙ level_done columns width even c o (row_at s i) (row_at s j) h)

pub follows_few : (w c o d p levels : ℕ) → Follows w c o d p → o + 7 * levels ≤ 448 → 0 < levels → p + 7 * (levels - 1) ≤ 448
follows_few w c o d p levels f h more = by (nat_lt (w % 256) 8) f
  where
    by : (b : Bool) → MatchBool b ((d ≡ c + 1) × (p ≡ 0)) ((d ≡ c) × (p ≡ o + 7)) → p + 7 * (levels - 1) ≤ 448
    by true f = omega (arith, f.1, h, more)
    by false f = omega (arith, f.1, h, more)
