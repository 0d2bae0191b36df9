-- The partitions of a closed table, taken from the last to the first and then turned round.
use Rattle.std.proofs.Common.{◌≡◌, ◌<◌, ◌+◌, ◌∙◌, ◌++◌, ◌∷◌, ◌⊎◌, inl, inr, ℕ, zero, suc, List, [], Some, refl, ap, sym, subst, arith, get_or, length, reverse, slice_get}
use Rattle.std.proofs.lemmas.List.{length-append, reverse-append}
use Rattle.std.specs.FinMap as fin
use Rattle.std.proofs.lemmas.Option.{get_or_from_slice_get, slice_get-get_or, slice_get_within}
use Rattle.atomic_table.specs.Seated.{TableId}
use Rattle.lock_book.specs.declared.view.Entry.{Entry}
use Rattle.dshash_core.specs.Cells.{KeyMap, PartitionView}
use Rattle.dshash_core.specs.Outcome.{ListsAll}
use Rattle.dshash_parts.specs.Ending.{IsAt}
use Rattle.dshash_parts.specs.States.{PartitionState}
use Rattle.dshash_parts.specs.declared.histories.PartitionCalls.{PartitionCalls}
use Rattle.dshash_parts.specs.declared.histories.PartitionReplies.{PartitionReplies}
use Rattle.dshash_parts.specs.declared.table.Dshash.{Dshash}
use Rattle.frozen_table.specs.Parts.{AreFrozen, AreListed, AreParts, HaveMaps, ListMaps, map_in}

-- an element at a place within a list
pub some_at : {X : Type 0} (xs : List X) (i : ℕ) → i < length xs → (x : X) × (slice_get xs i ≡ Some x)
some_at [] i lt = absurd (omega (arith, lt))
some_at (x ∷ xs) zero lt = (x, refl)
some_at (x ∷ xs) (suc i) lt = some_at xs i (omega (arith, lt))

module _ {O S C R : Type 0} (region : TableId) (t : Dshash O S C R) (history : ℕ → List (Entry (PartitionState S) (PartitionCalls C) (PartitionReplies S R))) where
  -- the partitions from this number on
  abbrev pub AreTaken : ℕ → List (PartitionView S) → Type 0
  AreTaken from parts = (i : ℕ) (p : PartitionView S) → slice_get parts i ≡ Some p → IsAt region t (from + i) (history (from + i)) p

  pub taken_none : (from : ℕ) → AreTaken from []
  taken_none from i p e = absurd (cc)

  -- the one before them was taken next
  pub taken_next : (from n : ℕ) (parts : List (PartitionView S)) (p : PartitionView S) → n ≡ from + 1 → AreTaken n (reverse parts) → IsAt region t from (history from) p → AreTaken from (reverse (parts ++ p ∷ []))
  taken_next from n parts p next taken here = subst (AreTaken from) (sym (reverse-append parts (p ∷ []))) by
    where
      by : AreTaken from (p ∷ reverse parts)
      by zero q e = let same : p ≡ q = cc in let at : from + 0 ≡ from = omega arith in subst (λ (k : ℕ). IsAt region t k (history k) q) (sym at) (subst (IsAt region t from (history from)) same here)
      by (suc i) q e = let at : from + suc i ≡ n + i = omega (arith, next) in subst (λ (k : ℕ). IsAt region t k (history k) q) (sym at) (taken i q e)

  -- when all are taken, they are all partitions
  pub taken_all : (parts : List (PartitionView S)) → AreTaken 0 parts → length parts ≡ 128 → AreParts region t history parts
  taken_all parts taken count = record {
    maps = record { count = count; each = λ i p e. ap (λ s. s.cells) (at i p e).state };
    here = λ k d lt. ap (λ n. n.region) (taken k _ (slice_get-get_or parts k d lt)).name;
    each = at;
  }
    where
      at : (i : ℕ) (p : PartitionView S) → slice_get parts i ≡ Some p → IsAt region t i (history i) p
      at i p e = let same : 0 + i ≡ i = omega arith in subst (λ (k : ℕ). IsAt region t k (history k) p) same (taken i p e)

-- ---- the lists of the entries, one partition after another

-- where an element is that came last
some_same : {X : Type 0} (x y : X) → Some x ≡ Some y → x ≡ y
some_same x y e = cc

at_seam : {X : Type 0} (xs : List X) (x : X) (i : ℕ) (y : X) → slice_get (xs ++ x ∷ []) i ≡ Some y → ((i < length xs) × (slice_get xs i ≡ Some y)) ⊎ ((i ≡ length xs) × (x ≡ y))
at_seam [] x zero y e = inr (refl, some_same x y e)
at_seam [] x (suc i) y e = absurd (cc)
at_seam (z ∷ zs) x zero y e = inl (omega arith, e)
at_seam (z ∷ zs) x (suc i) y e = up (at_seam zs x i y e)
  where
    up : ((i < length zs) × (slice_get zs i ≡ Some y)) ⊎ ((i ≡ length zs) × (x ≡ y)) → ((suc i < length (z ∷ zs)) × (slice_get (z ∷ zs) (suc i) ≡ Some y)) ⊎ ((suc i ≡ length (z ∷ zs)) × (x ≡ y))
    up (inl h) = inl (omega (arith, h.0), h.1)
    up (inr h) = inr (omega (arith, h.0), h.1)

module _ {S : Type 0} where
  -- of the first partitions
  pub record AreListedTo (parts : List (PartitionView S)) (n : ℕ) (lists : List (List (List ℕ × S))) : Type 0 where
    pub count : length lists ≡ n
    pub each : (i : ℕ) (p : PartitionView S) (list : List (List ℕ × S)) → slice_get parts i ≡ Some p → slice_get lists i ≡ Some list → ListsAll p.cells list

  pub listed_none : (parts : List (PartitionView S)) → AreListedTo parts 0 []
  listed_none parts = record { count = refl; each = λ i p list e f. absurd (cc) }

  pub listed_all : (parts : List (PartitionView S)) (n : ℕ) (lists : List (List (List ℕ × S))) → AreListedTo parts n lists → n ≡ length parts → AreListed parts lists
  listed_all parts n lists h all = record { count = h.count ∙ all; each = h.each }

  pub listed_next : (parts : List (PartitionView S)) (n : ℕ) (lists : List (List (List ℕ × S))) (p : PartitionView S) (list : List (List ℕ × S)) → AreListedTo parts n lists → slice_get parts n ≡ Some p → ListsAll p.cells list
      → AreListedTo parts (n + 1) (lists ++ list ∷ [])
  listed_next parts n lists p list h here lists_p = record {
    count = length-append lists (list ∷ []) ∙ omega (arith, h.count);
    each = λ i q l e f. by i q l e (at_seam lists list i l f);
  }
    where
      by : (i : ℕ) (q : PartitionView S) (l : List (List ℕ × S)) → slice_get parts i ≡ Some q → ((i < length lists) × (slice_get lists i ≡ Some l)) ⊎ ((i ≡ length lists) × (list ≡ l)) → ListsAll q.cells l
      by i q l e (inl f) = h.each i q l e f.1
      by i q l e (inr f) =
          let at : slice_get parts n ≡ Some q = ap (slice_get parts) (sym (f.0 ∙ h.count)) ∙ e in
          let same : p ≡ q = some_same p q (sym here ∙ at) in
          subst (λ (x : PartitionView S). ListsAll x.cells l) same (subst (ListsAll p.cells) f.1 lists_p)

  -- the lists are those of the maps of their partitions
  pub list_maps : (maps : ℕ → KeyMap S) (parts : List (PartitionView S)) (lists : List (List (List ℕ × S))) → HaveMaps maps parts → AreFrozen parts lists → ListMaps maps lists
  list_maps maps parts lists have frozen = record {
    count = frozen.listed.count ∙ frozen.whole;
    each = λ i list e.
        let p = some_at parts i (omega (arith, slice_get_within lists i list e, frozen.listed.count)) in
        subst (λ (m : KeyMap S). ListsAll m list) (have.each i p.0 p.1) (frozen.listed.each i p.0 list p.1 e);
  }

  -- the lists of partitions have each key once
  pub list_own : (parts : List (PartitionView S)) (lists : List (List (List ℕ × S))) → length parts ≡ 128 → AreListed parts lists → ListMaps (map_in lists) lists
  list_own parts lists whole listed = record {
    count = listed.count ∙ whole;
    each = λ i list e.
        let p = some_at parts i (omega (arith, slice_get_within lists i list e, listed.count)) in
        let all = listed.each i p.0 list p.1 e in
        let here : get_or lists i [] ≡ list = get_or_from_slice_get lists i list [] e in
        record { all = sym (ap (λ (l : List (List ℕ × S)). fin.from_entries l) here); once = all.once ∙ sym (ap (λ (m : KeyMap S). fin.len m) (ap (λ (l : List (List ℕ × S)). fin.from_entries l) here ∙ all.all)) };
  }
