-- Where a run is cut in front of a range, and the stretch between two cuts.
use Rattle.std.proofs.Common.{◌≡◌, ◌<◌, ◌≤◌, ◌+◌, ◌-◌, ◌*◌, ◌==◌, ◌∙◌, ◌∷◌, ◌++◌, ◌⊎◌, [], ℕ, zero, suc, Bool, true, false, cond, List, All, inl, inr, ap, arith, drop, filter, get_or, length, map, refl, slice_index_or, subst, sym, take}
use Rattle.std.proofs.lemmas.Bool.{cases_lt, eq-eqb, ne_eqb}
use Rattle.std.proofs.lemmas.List.{append-nil, drop-drop, drop-take, drop_all, get_or-drop, get_or-map, get_or-take, length-drop, length-map, length-take-le, take-append-drop}
use Rattle.std.proofs.lemmas.List.Elements.{All-drop, All-head, All-nil, All-tail, All-take, filter-append}
use Rattle.std.proofs.lemmas.Map.Keys.{Less-from_sorted}
use Rattle.std.specs.Ordering.{is_lt}
use Rattle.std.specs.declared.cmp.Ordering.TheVariants.{Less}
use Rattle.par_model.specs.Table.{columns_cmp}
use Rattle.result_text.specs.KeyColumns.{columns_in}
use Rattle.result_text.proofs.Columns.{columns_total}
use Rattle.line_runs.specs.Entries.{Entry, no_entry}
use Rattle.line_runs.specs.Ranges.{AllAfter, AreOrdered, IsCutAt, IsPlaceAfter, NoneAfter, count_before, count_of, is_before, is_of, range_of}
use Rattle.line_runs.specs.Runs.{Rise}
use Rattle.line_runs.specs.declared.ranges.Ranges.{Ranges}
use Rattle.line_runs.specs.declared.ranges.TheConstants.{SAMPLE}
use Rattle.line_runs.proofs.Rising.{less_of, ordered_parts, range_below}

-- within a list the element in place of missing ones does not matter
pub same_within : {X : Type 0} (xs : List X) (i : ℕ) (d e : X) → i < length xs → slice_index_or xs i d ≡ slice_index_or xs i e
same_within [] i d e lt = absurd (omega (arith, lt))
same_within (x ∷ xs) zero d e lt = refl
same_within (x ∷ xs) (suc i) d e lt = same_within xs i d e (omega (arith, lt))

-- ---- what a filter keeps

keeps_all : {X : Type 0} (p : X → Bool) (xs : List X) → All (λ x. p x ≡ true) xs → filter p xs ≡ xs
keeps_all p [] all = refl
keeps_all p (x ∷ xs) all = ap (λ (b : Bool). cond b (x ∷ filter p xs) (filter p xs)) (All-head (λ x. p x ≡ true) x xs all) ∙ ap (λ l. x ∷ l) (keeps_all p xs (All-tail (λ x. p x ≡ true) x xs all))

keeps_none : {X : Type 0} (p : X → Bool) (xs : List X) → All (λ x. p x ≡ false) xs → filter p xs ≡ []
keeps_none p [] all = refl
keeps_none p (x ∷ xs) all = ap (λ (b : Bool). cond b (x ∷ filter p xs) (filter p xs)) (All-head (λ x. p x ≡ false) x xs all) ∙ keeps_none p xs (All-tail (λ x. p x ≡ false) x xs all)

-- ---- cuts

module _ (r : Ranges) (range : ℕ) (run : List Entry) where
  below_at : (place k : ℕ) → IsCutAt r range run place → k < place → range_of r (get_or run k no_entry).0 < range
  below_at place k c lt =
      subst (λ (e : Entry). range_of r e.0 < range) (get_or-take place run k no_entry lt) (c.below k no_entry (omega (arith, lt, length-take-le place run c.within)))

  above_at : (place k : ℕ) → IsCutAt r (range + 1) run place → place ≤ k → k < length run → range + 1 ≤ range_of r (get_or run k no_entry).0
  above_at place k c le lt =
      let at : place + (k - place) ≡ k = omega (arith, le) in
      subst (λ (e : Entry). range + 1 ≤ range_of r e.0) (get_or-drop place run (k - place) no_entry ∙ ap (λ (n : ℕ). get_or run n no_entry) at) (c.above (k - place) no_entry (omega (arith, le, lt, length-drop place run)))

  -- the cut after a range is not before that in front of it
  pub cuts_rise : (from to : ℕ) → IsCutAt r range run from → IsCutAt r (range + 1) run to → from ≤ to
  cuts_rise from to a b = by (cases_lt to from)
    where
      by : (to < from) ⊎ (from ≤ to) → from ≤ to
      by (inr le) = le
      by (inl lt) =
          let here : to < length run = omega (arith, lt, a.within) in
          let low = below_at from to a lt in
          let high = above_at to to b (omega arith) here in
          absurd (omega (arith, low, high))

  -- the stretch between two cuts is what the run has of the range
  pub stretch_is : (from to : ℕ) → IsCutAt r range run from → IsCutAt r (range + 1) run to → take (to - from) (drop from run) ≡ filter (is_of r range) run
  stretch_is from to a b =
      let le = cuts_rise from to a b in
      let mid = take (to - from) (drop from run) in
      let end = drop (to - from) (drop from run) in
      let at : from + (to - from) ≡ to = omega (arith, le) in
      let end_is : end ≡ drop to run = drop-drop (to - from) from run ∙ ap (λ (n : ℕ). drop n run) at in
      let low : All (λ (e : Entry). is_of r range e ≡ false) (take from run) = λ k d lt. lower (range_of r (get_or (take from run) k d).0) (a.below k d lt) in
      let high : All (λ (e : Entry). is_of r range e ≡ false) end =
      subst (All (λ (e : Entry). is_of r range e ≡ false)) (sym end_is) (λ k d lt. higher (range_of r (get_or (drop to run) k d).0) (b.above k d lt)) in
      let mids : All (λ (e : Entry). is_of r range e ≡ true) mid = λ k d lt. equal (range_of r (get_or mid k d).0) (from_below k d lt) (to_above k d lt) in
      sym (ap (filter (is_of r range)) (sym (take-append-drop from run) ∙ ap (λ (l : List Entry). take from run ++ l) (sym (take-append-drop (to - from) (drop from run))))
      ∙ filter-append (is_of r range) (take from run) (mid ++ end)
      ∙ ap (λ (l : List Entry). l ++ filter (is_of r range) (mid ++ end)) (keeps_none (is_of r range) (take from run) low)
      ∙ filter-append (is_of r range) mid end
      ∙ (λ i. keeps_all (is_of r range) mid mids i ++ keeps_none (is_of r range) end high i)
      ∙ append-nil mid)
    where
      lower : (n : ℕ) → n < range → (n == range) ≡ false
      lower n lt = ne_eqb n range (λ e. omega (arith, e, lt))

      higher : (n : ℕ) → range + 1 ≤ n → (n == range) ≡ false
      higher n le = ne_eqb n range (λ e. omega (arith, e, le))

      equal : (n : ℕ) → range ≤ n → n < range + 1 → (n == range) ≡ true
      equal n low high = eq-eqb n range (omega (arith, low, high))

      from_below : All (λ (e : Entry). range ≤ range_of r e.0) (take (to - from) (drop from run))
      from_below = All-take (λ (e : Entry). range ≤ range_of r e.0) (to - from) (drop from run) a.above

      -- the stretch lies in front of the second cut
      to_above : All (λ (e : Entry). range_of r e.0 < range + 1) (take (to - from) (drop from run))
      to_above =
          let le = cuts_rise from to a b in
          let at : from + (to - from) ≡ to = omega (arith, le) in
          let swapped : drop from (take to run) ≡ take (to - from) (drop from run) = ap (λ (n : ℕ). drop from (take n run)) (sym at) ∙ drop-take from (to - from) run in
          subst (All (λ (e : Entry). range_of r e.0 < range + 1)) swapped (All-drop (λ (e : Entry). range_of r e.0 < range + 1) from (take to run) b.below)

-- before the first range there is nothing
pub first_cut : (r : Ranges) (run : List Entry) → IsCutAt r 0 run 0
first_cut r run = record { within = omega arith; below = All-nil (λ (e : Entry). range_of r e.0 < 0); above = λ k d lt. omega arith }

-- and after the last there is nothing
pub last_cut : (r : Ranges) (range : ℕ) (run : List Entry) → count_of r ≤ range → IsCutAt r range run (length run)
last_cut r range run le = record {
  within = omega arith;
  below = λ k d lt. omega (arith, le, range_below r (get_or (take (length run) run) k d).0);
  above = subst (All (λ (e : Entry). range ≤ range_of r e.0)) (sym (drop_all (length run) run (omega arith))) (All-nil (λ (e : Entry). range ≤ range_of r e.0));
}

-- ---- how many pass

at_least : {X : Type 0} (p : X → Bool) (xs : List X) (n : ℕ) → n ≤ length xs → ((k : ℕ) (d : X) → k < n → p (slice_index_or xs k d) ≡ true) → n ≤ length (filter p xs)
at_least p xs zero le low = omega arith
at_least p [] (suc n) le low = absurd (omega (arith, le))
at_least p (x ∷ xs) (suc n) le low =
    let rest : n ≤ length (filter p xs) = at_least p xs n (omega (arith, le)) (λ k d lt. low (suc k) d (omega (arith, lt))) in
    rw (low 0 x (omega arith)) (omega (arith, rest))

at_most : {X : Type 0} (p : X → Bool) (xs : List X) (n : ℕ) → ((k : ℕ) (d : X) → n ≤ k → k < length xs → p (slice_index_or xs k d) ≡ false) → length (filter p xs) ≤ n
at_most p [] n high = omega arith
at_most p (x ∷ xs) zero high = rw (high 0 x (omega arith) (omega arith)) (at_most p xs zero (λ k d from lt. high (suc k) d (omega arith) (omega (arith, lt))))
at_most {X = X} p (x ∷ xs) (suc n) high = by (p x) (at_most p xs n (λ k d from lt. high (suc k) d (omega (arith, from)) (omega (arith, lt))))
  where
    by : (b : Bool) → length (filter p xs) ≤ n → length (cond b (x ∷ filter p xs) (filter p xs)) ≤ suc n
    by true h = omega (arith, h)
    by false h = omega (arith, h)

-- ---- one key of the sample decides

module _ (r : Ranges) (ordered : AreOrdered r) (key : List ℕ) where
  -- if the key of the sample at a place comes before this one, so do those in front of it
  count_above : (i : ℕ) (d : _) → i < length r.sample.items → is_before r.columns (slice_index_or r.sample.items i d).now key ≡ true → suc i ≤ count_before r key
  count_above i d lt comes =
      at_least (λ other. is_before r.columns other.now key) r.sample.items (suc i) (omega (arith, lt)) (λ k e le.
      ordered_parts r key ordered k i e (omega (arith, le)) lt (ap (λ other. is_before r.columns other.now key) (same_within r.sample.items i e d lt) ∙ comes))

  -- and if it does not, neither do those after it
  count_below : (i : ℕ) (d : _) → i < length r.sample.items → is_before r.columns (slice_index_or r.sample.items i d).now key ≡ false → count_before r key ≤ i
  count_below i d lt not_so =
      at_most (λ other. is_before r.columns other.now key) r.sample.items i (λ k e from less. by k e from less (is_before r.columns (slice_index_or r.sample.items k e).now key) refl)
    where
      by : (k : ℕ) (e : _) → i ≤ k → k < length r.sample.items → (b : Bool) → is_before r.columns (slice_index_or r.sample.items k e).now key ≡ b → is_before r.columns (slice_index_or r.sample.items k e).now key ≡ false
      by k e from less false is = is
      by k e from less true is =
          let first = ordered_parts r key ordered i k e from less is in
          let other : true ≡ false = sym first ∙ ap (λ other. is_before r.columns other.now key) (same_within r.sample.items i e d lt) ∙ not_so in
          absurd (cc)

  pub sample_decides : (range : ℕ) (d : _) → 0 < range → range < count_of r
      → (is_before r.columns (slice_index_or r.sample.items (range * SAMPLE - 1) d).now key ≡ true → range ≤ range_of r key)
      × (is_before r.columns (slice_index_or r.sample.items (range * SAMPLE - 1) d).now key ≡ false → range_of r key < range)
  sample_decides range d some within =
      let lt : range * SAMPLE - 1 < length r.sample.items = omega (arith, some, within) in (
        λ comes. omega (arith, some, count_above (range * SAMPLE - 1) d lt comes),
        λ not_so. omega (arith, some, count_below (range * SAMPLE - 1) d lt not_so),
      )

-- the place after that key of the sample is where the run is cut
pub cut_of_place : (r : Ranges) (range : ℕ) (run : List Entry) (before : _) (place : ℕ) → AreOrdered r → 0 < range → range < count_of r → ((d : _) → before ≡ slice_index_or r.sample.items (range * SAMPLE - 1) d)
    → IsPlaceAfter r.columns run before.now place → IsCutAt r range run place
cut_of_place r range run before place ordered some within is at = record {
  within = at.within;
  below = λ k d lt. below k d (omega (arith, lt, length-take-le place run at.within));
  above = λ k d lt. above k d (omega (arith, lt, length-drop place run));
}
  where
    decides : (key : List ℕ) → (is_before r.columns before.now key ≡ true → range ≤ range_of r key) × (is_before r.columns before.now key ≡ false → range_of r key < range)
    decides key =
        let both = sample_decides r ordered key range before some within in
        let e = is before in (
          λ comes. both.0 (ap (λ other. is_before r.columns other.now key) (sym e) ∙ comes),
          λ not_so. both.1 (ap (λ other. is_before r.columns other.now key) (sym e) ∙ not_so),
        )

    below : (k : ℕ) (d : Entry) → k < place → range_of r (get_or (take place run) k d).0 < range
    below k d lt =
        let e : get_or (take place run) k d ≡ get_or run k no_entry = get_or-take place run k d lt ∙ same_within run k d no_entry (omega (arith, lt, at.within)) in
        subst (λ (entry : Entry). range_of r entry.0 < range) (sym e) ((decides (get_or run k no_entry).0).1 (at.before k (omega arith) lt))

    above : (k : ℕ) (d : Entry) → place + k < length run → range ≤ range_of r (get_or (drop place run) k d).0
    above k d lt =
        let e : get_or (drop place run) k d ≡ get_or run (place + k) no_entry = get_or-drop place run k d ∙ same_within run (place + k) d no_entry lt in
        subst (λ (entry : Entry). range ≤ range_of r entry.0) (sym e) ((decides (get_or run (place + k) no_entry).0).0 (at.after (place + k) (omega arith) lt))

-- ---- a search by halves

module _ (count : ℕ) (run : List Entry) (key : List ℕ) (rises : Rise count run) where
  entry_columns : (k : ℕ) → k < length run → get_or (map (λ entry. columns_in count entry.0) run) k [] ≡ columns_in count (get_or run k no_entry).0
  entry_columns k lt = get_or-map (λ (entry : Entry). columns_in count entry.0) run k no_entry [] lt

  run_rises : (m k : ℕ) → m < k → k < length run → columns_cmp (columns_in count (get_or run m no_entry).0) (columns_in count (get_or run k no_entry).0) ≡ Less
  run_rises m k lt within =
      (λ i. columns_cmp (sym (entry_columns m (omega (arith, lt, within))) i) (sym (entry_columns k within) i))
      ∙ Less-from_sorted columns_cmp (map (λ entry. columns_in count entry.0) run) m k [] rises lt (omega (arith, within, length-map run (λ (entry : Entry). columns_in count entry.0)))

  -- after a key that comes after this one come only such keys
  pub after_from : (m k : ℕ) → m ≤ k → k < length run → is_before count key (get_or run m no_entry).0 ≡ true → is_before count key (get_or run k no_entry).0 ≡ true
  after_from m k le lt comes = by (cases_lt m k)
    where
      by : (m < k) ⊎ (k ≤ m) → is_before count key (get_or run k no_entry).0 ≡ true
      by (inl less) = ap is_lt (columns_total.trans (columns_in count key) (columns_in count (get_or run m no_entry).0) (columns_in count (get_or run k no_entry).0) (less_of _ comes) (run_rises m k less lt))
      by (inr same) = subst (λ (n : ℕ). is_before count key (get_or run n no_entry).0 ≡ true) (let e : m ≡ k = omega (arith, le, same) in e) comes

  -- and before a key that does not come after it come only such
  pub none_until : (m k : ℕ) → k ≤ m → m < length run → is_before count key (get_or run m no_entry).0 ≡ false → is_before count key (get_or run k no_entry).0 ≡ false
  none_until m k le lt not_so = by (is_before count key (get_or run k no_entry).0) refl
    where
      by : (b : Bool) → is_before count key (get_or run k no_entry).0 ≡ b → is_before count key (get_or run k no_entry).0 ≡ false
      by false e = e
      by true e = let other : true ≡ false = sym (after_from k m le lt e) ∙ not_so in absurd (cc)

-- two stretches side by side
pub none_joined : (count : ℕ) (run : List Entry) (key : List ℕ) (a b c : ℕ) → NoneAfter count run key a b → NoneAfter count run key b c → NoneAfter count run key a c
none_joined count run key a b c first second k from to = by (cases_lt k b)
  where
    by : (k < b) ⊎ (b ≤ k) → is_before count key (get_or run k no_entry).0 ≡ false
    by (inl lt) = first k from lt
    by (inr le) = second k le to

pub all_joined : (count : ℕ) (run : List Entry) (key : List ℕ) (a b c : ℕ) → AllAfter count run key a b → AllAfter count run key b c → AllAfter count run key a c
all_joined count run key a b c first second k from to = by (cases_lt k b)
  where
    by : (k < b) ⊎ (b ≤ k) → is_before count key (get_or run k no_entry).0 ≡ true
    by (inl lt) = first k from lt
    by (inr le) = second k le to
