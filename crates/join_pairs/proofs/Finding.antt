-- A participant of the second round adds the pairs of one more row, and of one more block.
use Rattle.std.proofs.Common.{◌≡◌, ◌+◌, ◌++◌, true, false, ℕ, suc, List, [], ◌∷◌, length, refl, ap, sym, subst, ◌∙◌, arith, append_assoc, append-nil, length-append}
use Rattle.std.specs.List.Sorted.{IsPermutation}
use Rattle.std.proofs.lemmas.List.Concat.{flat_map-append}
use Rattle.std.proofs.lemmas.List.Sorted.{IsPermutation-append_left, IsPermutation-append_right, IsPermutation-refl, IsPermutation-trans, length_permutation}
use Rattle.csv_rows.specs.Records.{field_of}
use Rattle.row_blocks.specs.Blocks.{Table, numbers_of_blocks}
use Rattle.par_model.specs.Record.{is_null}
use Rattle.join_pairs.specs.Chains.{HasChain, before_in}
use Rattle.join_pairs.specs.Found.{Stops, found_in, found_of}
use Rattle.join_pairs.specs.Gathered.{ChainsAll}
use Rattle.join_pairs.specs.Pairing.{StopsAdding, pairs_with}
use Rattle.join_pairs.specs.declared.chains.Chains.{Chains}
use Rattle.join_pairs.specs.declared.pairing.NoPairs.{NoPairs}
use Rattle.join_pairs.specs.declared.pairing.NoPairs.TheVariants.{TooMany, Memory}
use Rattle.join_pairs.specs.declared.pairs.Pair.{Pair}
use Rattle.join_pairs.proofs.Keys.{chain_found, none_found}

module _ (left right : Table) (left_column right_column : ℕ) where
  abbrev found : List ℕ → List Pair
  found = found_in left right left_column right_column

  abbrev of : ℕ → List Pair
  of = found_of left right left_column right_column

  pub found-append : (xs ys : List ℕ) → found (xs ++ ys) ≡ found xs ++ found ys
  found-append xs ys = flat_map-append of xs ys

  found_one : (xs : List ℕ) (r : ℕ) → found (xs ++ r ∷ []) ≡ found xs ++ of r
  found_one xs r = found-append xs (r ∷ []) ∙ ap (λ (l : List Pair). found xs ++ l) (append-nil (of r))

  -- the pairs of one more row
  pub more_rows : (old mid new : List Pair) (xs : List ℕ) (r : ℕ) → IsPermutation (old ++ found xs) mid → IsPermutation (mid ++ of r) new → IsPermutation (old ++ found (xs ++ r ∷ [])) new
  more_rows old mid new xs r h e =
      subst (λ l. IsPermutation (old ++ l) new) (sym (found_one xs r))
      (subst (λ l. IsPermutation l new) (append_assoc old (found xs) (of r))
      (IsPermutation-trans ((old ++ found xs) ++ of r) (mid ++ of r) new (IsPermutation-append_left (of r) (old ++ found xs) mid h) e))

  -- and of one more block
  pub more_blocks : (old mid new : List Pair) (xs ys : List ℕ) → IsPermutation (old ++ found xs) mid → IsPermutation (mid ++ found ys) new → IsPermutation (old ++ found (xs ++ ys)) new
  more_blocks old mid new xs ys h e =
      subst (λ l. IsPermutation (old ++ l) new) (sym (found-append xs ys))
      (subst (λ l. IsPermutation l new) (append_assoc old (found xs) (found ys))
      (IsPermutation-trans ((old ++ found xs) ++ found ys) (mid ++ found ys) new (IsPermutation-append_left (found ys) (old ++ found xs) mid h) e))

  -- too many with some rows are too many with more of them
  pub stops_rows : (old mid : List Pair) (xs ys zs : List ℕ) (why : NoPairs) → IsPermutation (old ++ found xs) mid → StopsAdding (length mid + length (found ys)) why → StopsAdding (length old + length (found ((xs ++ ys) ++ zs))) why
  stops_rows old mid xs ys zs TooMany p more =
      let before : length mid ≡ length old + length (found xs) = length_permutation (old ++ found xs) mid p ∙ length-append old (found xs) in
      let one : length (found (xs ++ ys)) ≡ length (found xs) + length (found ys) = ap (λ (l : List Pair). length l) (found-append xs ys) ∙ length-append (found xs) (found ys) in
      let whole : length (found ((xs ++ ys) ++ zs)) ≡ length (found (xs ++ ys)) + length (found zs) = ap (λ (l : List Pair). length l) (found-append (xs ++ ys) zs) ∙ length-append (found (xs ++ ys)) (found zs) in
      omega (arith, more, before, one, whole)
  stops_rows old mid xs ys zs Memory p more = tt

  -- ---- one row

  pub row_none : (old : List Pair) (r : ℕ) → is_null (field_of right r right_column) ≡ true → IsPermutation (old ++ of r) old
  row_none old r none = subst (λ l. IsPermutation (old ++ l) old) (sym (none_found left right left_column right_column r none)) (subst (λ l. IsPermutation l old) (sym (append-nil old)) (IsPermutation-refl old))

  pub row_some : (lasts : List ℕ → ℕ) (c : Chains) (old new : List Pair) (r last : ℕ) (all : ChainsAll left left_column lasts c) → is_null (field_of right r right_column) ≡ false
      → (h : HasChain (before_in c.befores.items) left left_column all.rows (field_of right r right_column) last) → new ≡ old ++ pairs_with r h.chain → IsPermutation (old ++ of r) new
  row_some lasts c old new r last all some h e =
      subst (IsPermutation (old ++ of r)) (sym e) (IsPermutation-append_right old (of r) (pairs_with r h.chain) (chain_found left right left_column right_column (before_in c.befores.items) all.rows r last some all.all h))

  pub row_stops : (lasts : List ℕ → ℕ) (c : Chains) (old : List Pair) (r last : ℕ) (all : ChainsAll left left_column lasts c) → is_null (field_of right r right_column) ≡ false
      → (h : HasChain (before_in c.befores.items) left left_column all.rows (field_of right r right_column) last) → (why : NoPairs) → StopsAdding (length old + length h.chain) why → StopsAdding (length old + length (of r)) why
  row_stops lasts c old r last all some h TooMany more =
      let count : length (of r) ≡ length h.chain =
      sym (length_permutation (of r) (pairs_with r h.chain) (chain_found left right left_column right_column (before_in c.befores.items) all.rows r last some all.all h)) ∙ with_count h.chain in
      omega (arith, more, count)
    where
      with_count : (xs : List ℕ) → length (pairs_with r xs) ≡ length xs
      with_count [] = refl
      with_count (x ∷ xs) = ap suc (with_count xs)
  row_stops lasts c old r last all some h Memory more = tt

  -- a participant that stops at a block has too many with the blocks that it drew
  pub block_stops : (mid : List Pair) (xs ys draws : List ℕ) (why : NoPairs) → numbers_of_blocks right draws ≡ xs ++ ys → IsPermutation (found xs) mid → StopsAdding (length mid + length (found ys)) why
      → Stops left right left_column right_column draws why
  block_stops mid xs ys draws TooMany e p more =
      let before : length mid ≡ length (found xs) = length_permutation (found xs) mid p in
      let whole : length (found (numbers_of_blocks right draws)) ≡ length (found xs) + length (found ys) = ap (λ (l : List ℕ). length (found l)) e ∙ ap (λ (l : List Pair). length l) (found-append xs ys) ∙ length-append (found xs) (found ys) in
      omega (arith, more, before, whole)
  block_stops mid xs ys draws Memory e p more = tt
