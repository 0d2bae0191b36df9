-- The rows with a key, and the pairs of a right row.
use Rattle.std.proofs.Common.{◌≡◌, ◌≢◌, ◌&&◌, not, Bool, true, false, ℕ, List, [], map, refl, ap, sym, subst, ◌∙◌}
use Rattle.std.specs.List.Sorted.{IsPermutation}
use Rattle.std.specs.Str.{bytes_eq}
use Rattle.std.proofs.lemmas.List.Elements.{filter_agree}
use Rattle.std.proofs.lemmas.List.Sorted.{IsPermutation-map, IsPermutation-trans}
use Rattle.std.proofs.lemmas.Slice.Eq.{bytes_eq-Decides}
use Rattle.csv_rows.specs.Records.{field_of}
use Rattle.row_blocks.specs.Blocks.{Table, numbers_of}
use Rattle.par_model.specs.Record.{is_null}
use Rattle.join_pairs.specs.Chains.{HasChain, rows_with}
use Rattle.join_pairs.specs.Join.{is_pair, keyed}
use Rattle.join_pairs.specs.Found.{found_of}
use Rattle.join_pairs.specs.Pairing.{pairs_with}
use Rattle.join_pairs.proofs.Filters.{filter-never, filter-permutation, filter-within}

pub same_bytes : (xs ys : List ℕ) → bytes_eq xs ys ≡ true → xs ≡ ys
same_bytes xs ys e = (bytes_eq-Decides xs ys).0 e

pub bytes_same : (xs ys : List ℕ) → xs ≡ ys → bytes_eq xs ys ≡ true
bytes_same xs ys e = (bytes_eq-Decides xs ys).1 e

pub other_bytes : (xs ys : List ℕ) → xs ≢ ys → bytes_eq xs ys ≡ false
other_bytes xs ys h = by (bytes_eq xs ys) (same_bytes xs ys)
  where
    by : (b : Bool) → (b ≡ true → xs ≡ ys) → b ≡ false
    by true f = absurd (h (f refl))
    by false f = refl

module _ (records : Table) (column : ℕ) where
  -- rows with a key that is not empty are among the rows whose field is not empty
  pub keyed_with : (key rows : List ℕ) → is_null key ≡ false → rows_with records column key (keyed records column rows) ≡ rows_with records column key rows
  keyed_with key rows some =
      filter-within (λ row. bytes_eq (field_of records row column) key) (λ row. not (is_null (field_of records row column)))
      (λ row e. ap (λ (k : List ℕ). not (is_null k)) (same_bytes (field_of records row column) key e) ∙ ap not some) rows

  pub with-permutation : (key xs ys : List ℕ) → IsPermutation xs ys → IsPermutation (rows_with records column key xs) (rows_with records column key ys)
  with-permutation key xs ys h = filter-permutation (λ row. bytes_eq (field_of records row column) key) xs ys h

module _ (left right : Table) (left_column right_column : ℕ) where
  -- a right row whose field is empty has no pairs
  pub none_found : (r : ℕ) → is_null (field_of right r right_column) ≡ true → found_of left right left_column right_column r ≡ []
  none_found r e =
      ap (map (λ l. record { left = l; right = r })) (filter-never (λ l. is_pair left right left_column right_column l r)
      (λ l. ap (λ b. not b && bytes_eq (field_of left l left_column) (field_of right r right_column)) e) (numbers_of left))

  -- those of another one are with the left rows that have its field
  pub some_found : (r : ℕ) → is_null (field_of right r right_column) ≡ false
      → found_of left right left_column right_column r ≡ pairs_with r (rows_with left left_column (field_of right r right_column) (numbers_of left))
  some_found r e =
      ap (map (λ l. record { left = l; right = r })) (filter_agree (λ l. is_pair left right left_column right_column l r) (λ l. bytes_eq (field_of left l left_column) (field_of right r right_column))
      (λ l. ap (λ b. not b && bytes_eq (field_of left l left_column) (field_of right r right_column)) e) (numbers_of left))

  -- a chain of all rows with its field has the pairs
  pub chain_found : (before : ℕ → ℕ) (rows : List ℕ) (r last : ℕ) → is_null (field_of right r right_column) ≡ false → IsPermutation (keyed left left_column (numbers_of left)) rows
      → (h : HasChain before left left_column rows (field_of right r right_column) last) → IsPermutation (found_of left right left_column right_column r) (pairs_with r h.chain)
  chain_found before rows r last e all h =
      let key = field_of right r right_column in
      let numbers = numbers_of left in
      let same = with-permutation left left_column key (keyed left left_column numbers) rows all in
      let known : IsPermutation (rows_with left left_column key numbers) (rows_with left left_column key rows) = subst (λ l. IsPermutation l (rows_with left left_column key rows)) (keyed_with left left_column key numbers e) same in
      let chained = IsPermutation-trans (rows_with left left_column key numbers) (rows_with left left_column key rows) h.chain known h.same in
      subst (λ l. IsPermutation l (pairs_with r h.chain)) (sym (some_found r e)) (IsPermutation-map (λ l. record { left = l; right = r }) (rows_with left left_column key numbers) h.chain chained)
