-- What has a key and is in the order of its columns, if no two keys are equal, rises strictly.
use Rattle.std.proofs.Common.{◌≡◌, ◌<◌, ◌+◌, ◌∙◌, ◌∷◌, [], ap, sym, arith, Bool, false, bytes_eq, length, ℕ, List, All, get_or, map, refl}
use Rattle.std.proofs.lemmas.List.{get_or-map, length-map}
use Rattle.std.proofs.lemmas.Map.Keys.{apart_from_distinct, sorted_from_all_adjacent}
use Rattle.std.proofs.lemmas.Slice.Eq.{bytes_eq-Decides}
use Rattle.std.specs.Cmp.{IsTotalOrder, both_ways}
use Rattle.std.specs.FinMap.{nat_cmp-IsAntisymmetric, slice_cmp-IsAntisymmetric}
use Rattle.std.specs.List.{IsDistinct}
use Rattle.std.specs.List.Sorted.{IsSortedBy, IsStrictlySortedBy}
use Rattle.std.specs.Ordering.{is_lt, ordering_reverse}
use Rattle.std.specs.declared.cmp.Ordering.{Ordering}
use Rattle.std.specs.declared.cmp.Ordering.TheVariants.{Equal, Greater, Less}
use Rattle.par_model.specs.Key.{encoded}
use Rattle.par_model.specs.Table.{columns_cmp}
use Rattle.result_text.specs.KeyColumns.{columns_in}
use Rattle.result_text.proofs.Columns.{columns_total}
use Rattle.line_runs.specs.Entries.{Entry, comes_before}
use Rattle.line_runs.specs.Runs.{Rise}

-- of an order that is total: what is not before another and not equal to it comes after it
after : {K : Type 0} (R : K → K → Ordering) → IsTotalOrder R → (x y : K) → is_lt (R y x) ≡ false → (R x y ≡ Equal → ⊥) → R x y ≡ Less
after R total x y not_before other = by (R x y) (R y x) refl refl (total.antisymm x y)
  where
    by : (r s : Ordering) → R x y ≡ r → R y x ≡ s → R x y ≡ ordering_reverse (R y x) → R x y ≡ Less
    by Less s e f h = e
    by Equal s e f h = absurd (other e)
    by Greater Less e f h = cc (rw f at not_before)
    by Greater Equal e f h = cc (rw f at h)
    by Greater Greater e f h = rw f at h

same_columns : (a b : List (List ℕ)) → columns_cmp a b ≡ Equal → a ≡ b
same_columns = slice_cmp-IsAntisymmetric (slice_cmp-IsAntisymmetric nat_cmp-IsAntisymmetric)

false-from : (a b : List ℕ) → a ≡ b → bytes_eq a b ≡ false → ⊥
false-from a b is apart = let yes = (bytes_eq-Decides a b).1 is in cc

pub flips : (a b : List ℕ) → bytes_eq a b ≡ bytes_eq b a
flips a b = both_ways (bytes_eq a b) (bytes_eq b a) (λ e. (bytes_eq-Decides b a).1 (sym ((bytes_eq-Decides a b).0 e))) (λ e. (bytes_eq-Decides a b).1 (sym ((bytes_eq-Decides b a).0 e)))

module _ {G : Type 0} (key : G → List ℕ) (count : ℕ) where
  abbrev columns_of : G → List (List ℕ)
  columns_of g = columns_in count (key g)

  -- its key is the encoding of the columns that are read of it
  abbrev pub IsReadBy : G → Type 0
  IsReadBy g = encoded (columns_of g) ≡ key g

  abbrev pub before_by : G → G → Bool
  before_by a b = is_lt (columns_cmp (columns_of a) (columns_of b))

  rises-at : (a b : G) → IsReadBy a → IsReadBy b → bytes_eq (key a) (key b) ≡ false → before_by b a ≡ false → columns_cmp (columns_of a) (columns_of b) ≡ Less
  rises-at a b read_a read_b apart not_before =
      after columns_cmp columns_total (columns_of a) (columns_of b) not_before (λ tie. false-from (key a) (key b) (sym read_a ∙ ap encoded (same_columns (columns_of a) (columns_of b) tie) ∙ read_b) apart)

  rising-from : (gs : List G) (d : G) → IsDistinct bytes_eq (map key gs) → All IsReadBy gs → IsSortedBy before_by gs → IsStrictlySortedBy columns_cmp (map columns_of gs)
  rising-from gs d different read sorted =
      let long : length (map columns_of gs) ≡ length gs = length-map gs columns_of in
      let long_keys : length (map key gs) ≡ length gs = length-map gs key in
      sorted_from_all_adjacent columns_total _ (columns_of d) (λ k lt.
      let here : k < length gs = omega (arith, lt, long) in
      let next : k + 1 < length gs = omega (arith, lt, long) in
      let apart = apart_from_distinct bytes_eq (map key gs) k (k + 1) (key d) different (omega arith) (omega (arith, next, long_keys)) in
      let keys_apart : bytes_eq (key (get_or gs k d)) (key (get_or gs (k + 1) d)) ≡ false = rw (get_or-map key gs k d (key d) here, get_or-map key gs (k + 1) d (key d) next) at apart in
      rw (get_or-map columns_of gs k d (columns_of d) here, get_or-map columns_of gs (k + 1) d (columns_of d) next)
      (rises-at (get_or gs k d) (get_or gs (k + 1) d) (read k d here) (read (k + 1) d next) keys_apart (sorted k d (omega arith) next)))

  pub rising_by : (gs : List G) → IsDistinct bytes_eq (map key gs) → All IsReadBy gs → IsSortedBy before_by gs → IsStrictlySortedBy columns_cmp (map columns_of gs)
  unfolding IsStrictlySortedBy
  rising_by [] different read sorted = tt
  rising_by (g ∷ gs) different read sorted = rising-from (g ∷ gs) g different read sorted

abbrev pub key_of_entry : Entry → List ℕ
key_of_entry e = e.0

-- entries that are sorted rise
pub entries_rise : (count : ℕ) (entries : List Entry) → IsDistinct bytes_eq (map key_of_entry entries) → All (IsReadBy key_of_entry count) entries → IsSortedBy (comes_before count) entries → Rise count entries
entries_rise count entries different read sorted = rising_by key_of_entry count entries different read sorted
