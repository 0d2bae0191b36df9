-- The runs of all maps, in order.
use Rattle.std.proofs.Common.{◌≡◌, ◌≤◌, ◌++◌, ◌∷◌, ◌∙◌, List, [], ℕ, All, ap, bytes_eq, get_or, length, map, refl, subst, sym}
use Rattle.std.proofs.lemmas.List.{map-append}
use Rattle.std.proofs.lemmas.List.Elements.{All-append, All-cons, All-map, All-nil}
use Rattle.std.proofs.lemmas.List.Sorted.{All-permutation, IsPermutation-append, IsPermutation-map, IsPermutation-refl, IsPermutation-trans}
use Rattle.std.proofs.lemmas.Map.Keys.{IsDistinct-IsPermutation}
use Rattle.std.proofs.lemmas.Simd.{map-map}
use Rattle.std.specs.List.{IsDistinct}
use Rattle.std.specs.List.Sorted.{IsPermutation, IsSortedBy, IsStrictlySortedBy}
use Rattle.par_model.specs.Key.{encoded}
use Rattle.par_model.specs.Table.{columns_cmp}
use Rattle.partial_agg.specs.Groups.{GroupsByKey}
use Rattle.partial_agg.specs.Listed.{listed}
use Rattle.partial_agg.specs.declared.groups.Group.{Group as MapGroup}
use Rattle.result_text.specs.KeyColumns.{columns_in}
use Rattle.result_text.specs.Printable.{IsKeyOf}
use Rattle.result_text.proofs.KeyColumns.{encoded-columns_in}
use Rattle.line_runs.specs.Entries.{Entry, all_entries, comes_before}
use Rattle.line_runs.specs.Ranges.{AreInOrder}
use Rattle.line_runs.specs.Runs.{Rise}
use Rattle.line_runs.proofs.Lines.{moved_back}
use Rattle.line_runs.proofs.Strict.{IsReadBy, entries_rise, flips, key_of_entry}
use Rattle.state_blocks.specs.Blocks.{Group}
use Rattle.state_save.specs.Saving.{tuple_of}
use Rattle.state_whole.specs.Adding.{key_of}
use Rattle.state_whole.specs.declared.adding.Shape.{Shape}
use Rattle.state_runs.specs.Runs.{AreApart, AreRunsOf, IsRunOf, entry_of, groups_in}

abbrev map_key : MapGroup → List ℕ
map_key g = g.key

module _ (shape : Shape) where
  abbrev entry : Group → Entry
  entry g = entry_of shape.kinds.now g

  -- ---- the columns of entries are those of their tuples

  columns_are : (tuples : List Group) → map (λ (e : Entry). columns_in shape.columns e.0) (map entry tuples) ≡ map (columns_in shape.columns) (map key_of tuples)
  columns_are [] = refl
  columns_are (g ∷ tuples) = ap (λ (cs : List (List (List ℕ))). columns_in shape.columns g.key ∷ cs) (columns_are tuples)

  -- a run rises
  run_rises : (groups : List MapGroup) (run : List Entry) → IsRunOf shape groups run → Rise shape.columns run
  run_rises groups run is = subst (IsStrictlySortedBy columns_cmp) (sym (ap (map (λ (e : Entry). columns_in shape.columns e.0)) is.is ∙ columns_are is.tuples)) is.are.rise

  pub all_rise : (maps : List GroupsByKey) (runs : List (List Entry)) → AreRunsOf shape maps runs → All (Rise shape.columns) runs
  all_rise [] [] are = All-nil (Rise shape.columns)
  all_rise [] (run ∷ runs) are = absurd are
  all_rise (m ∷ maps) [] are = absurd are
  all_rise (m ∷ maps) (run ∷ runs) are = All-cons (Rise shape.columns) run runs (run_rises (listed m) run are.0) (all_rise maps runs are.1)

  -- ---- all runs, one after another

  pub record Joined (maps : List GroupsByKey) (runs : List (List Entry)) : Type 0 where
    pub short : All (λ (g : MapGroup). length g.key ≤ 248) (groups_in maps)
    pub tuples : List Group
    pub same : IsPermutation (map (tuple_of shape) (groups_in maps)) tuples
    pub is : all_entries runs ≡ map entry tuples

  pub joined : (maps : List GroupsByKey) (runs : List (List Entry)) → AreRunsOf shape maps runs → Joined maps runs
  joined [] [] are = record { short = All-nil (λ (g : MapGroup). length g.key ≤ 248); tuples = []; same = IsPermutation-refl []; is = refl }
  joined [] (run ∷ runs) are = absurd are
  joined (m ∷ maps) [] are = absurd are
  joined (m ∷ maps) (run ∷ runs) are =
      let here = are.0 in
      let later = joined maps runs are.1 in
      record {
        short = All-append (λ (g : MapGroup). length g.key ≤ 248) (listed m) (groups_in maps) here.short later.short;
        tuples = here.tuples ++ later.tuples;
        same = subst (λ (ts : List Group). IsPermutation ts (here.tuples ++ later.tuples)) (sym (map-append (tuple_of shape) (listed m) (groups_in maps)))
            (IsPermutation-append (map (tuple_of shape) (listed m)) here.tuples (map (tuple_of shape) (groups_in maps)) later.tuples here.are.same later.same);
        is = (λ i. here.is i ++ later.is i) ∙ sym (map-append entry here.tuples later.tuples);
      }

  -- ---- in order

  keys_entry : (tuples : List Group) → map key_of_entry (map entry tuples) ≡ map key_of tuples
  keys_entry tuples = map-map key_of_entry entry tuples

  keys_tuple : (groups : List MapGroup) → map key_of (map (tuple_of shape) groups) ≡ map map_key groups
  keys_tuple groups = map-map key_of (tuple_of shape) groups

  abbrev IsReadTuple : Group → Type 0
  IsReadTuple g = encoded (columns_in shape.columns g.key) ≡ g.key

  pub in_order : (maps : List GroupsByKey) (runs sorted : List (List Entry)) → All (λ (g : MapGroup). IsKeyOf shape.columns g.key) (groups_in maps) → AreApart maps → AreRunsOf shape maps runs → AreInOrder shape.columns runs sorted
      → IsRunOf shape (groups_in maps) (all_entries sorted)
  in_order maps runs sorted keys apart are order =
      let groups = groups_in maps in
      let all = joined maps runs are in
      let m = moved_back entry all.tuples (all_entries sorted) (subst (λ (es : List Entry). IsPermutation es (all_entries sorted)) all.is order.same) in
      let tuples = m.moved in
      let same = IsPermutation-trans (map (tuple_of shape) groups) all.tuples tuples all.same m.same in
      let different = IsDistinct-IsPermutation bytes_eq flips (map key_of (map (tuple_of shape) groups)) (map key_of tuples) (IsPermutation-map key_of (map (tuple_of shape) groups) tuples same)
      (subst (IsDistinct bytes_eq) (sym (keys_tuple groups)) apart) in
      let read_groups : All (λ (g : MapGroup). IsReadTuple (tuple_of shape g)) groups = λ k d lt. encoded-columns_in shape.columns (get_or groups k d).key (keys k d lt) (all.short k d lt) in
      let read = All-permutation IsReadTuple (map (tuple_of shape) groups) tuples same (All-map IsReadTuple (tuple_of shape) groups read_groups) in
      let rise = entries_rise shape.columns (map entry tuples) (subst (IsDistinct bytes_eq) (sym (keys_entry tuples)) different) (All-map (IsReadBy key_of_entry shape.columns) entry tuples read)
      (subst (IsSortedBy (comes_before shape.columns)) m.is order.sorted) in
      record {
        short = all.short;
        tuples = tuples;
        are = record { same = same; rise = subst (IsStrictlySortedBy columns_cmp) (columns_are tuples) rise };
        is = m.is;
      }
