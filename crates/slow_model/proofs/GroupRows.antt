-- The rows of a group, their values and their numbers, one row at a time.
use Rattle.std.proofs.Common.{◌≡◌, bytes_eq, ◌∙◌, ◌+◌, ◌<◌, ◌++◌, ◌&&◌, ◌∷◌, [], ℕ, zero, suc, ℤ, Bool, true, false, cond, not, if◌then◌else◌, List, Option, Some, None, filter, filter_map, get_or, length, map, option_to_list, refl, ap, sym, take, length-append}
use Rattle.std.proofs.Math.Dec.{eqb-suc-zero}
use Rattle.std.proofs.lemmas.List.{map-append, take_more}
use Rattle.std.proofs.lemmas.List.Elements.{filter-append, filter_map-append}
use Rattle.std.specs.List.{cons_option}
use Rattle.par_model.specs.Aggregate.{values_of}
use Rattle.par_model.specs.Number.{decimal_of, number_of}
use Rattle.par_model.specs.Keep.{is_kept}
use Rattle.par_model.specs.Key.{key_of}
use Rattle.par_model.specs.Plan.{Plan}
use Rattle.par_model.specs.Record.{field_of, is_null}

-- whether a row is one of the group
abbrev pub in_group : Plan → List ℕ → List (List ℕ) → Bool
in_group plan key row = is_kept plan row && bytes_eq (key_of plan row) key

-- the rows that pass a test
module _ (p : List (List ℕ) → Bool) (column : ℕ) where
  -- the values of a column in them
  abbrev pub values : List (List (List ℕ)) → List (List ℕ)
  values rows = values_of column (filter p rows)

  values-append : (xs ys : List (List (List ℕ))) → values (xs ++ ys) ≡ values xs ++ values ys
  values-append xs ys =
      ap (values_of column) (filter-append p xs ys)
      ∙ ap (filter (λ field. not (is_null field))) (map-append (λ row. field_of row column) (filter p xs) (filter p ys))
      ∙ filter-append (λ field. not (is_null field)) (map (λ row. field_of row column) (filter p xs)) (map (λ row. field_of row column) (filter p ys))

  one_value : (row : List (List ℕ)) (b n : Bool) → p row ≡ b → is_null (field_of row column) ≡ n → length (values (row ∷ [])) ≡ cond (p row && not (is_null (field_of row column))) 1 0
  one_value row false n is null = rw is refl
  one_value row true true is null = rw (is, null) refl
  one_value row true false is null = rw (is, null) refl

  -- the next row adds its field to the values where it passes and the field is not null
  values_more : (rows : List (List (List ℕ))) (i : ℕ) (d : List (List ℕ)) → i < length rows
      → length (values (take (i + 1) rows)) ≡ length (values (take i rows)) + cond (p (get_or rows i d) && not (is_null (field_of (get_or rows i d) column))) 1 0
  values_more rows i d within =
      let row = get_or rows i d in
      ap (λ (l : List (List (List ℕ))). length (values l)) (take_more rows i d within)
      ∙ ap length (values-append (take i rows) (row ∷ []))
      ∙ length-append (values (take i rows)) (values (row ∷ []))
      ∙ ap (λ n. length (values (take i rows)) + n) (one_value row (p row) (is_null (field_of row column)) refl refl)

  -- the same of the row that is read there
  pub values_next : (rows : List (List (List ℕ))) (i : ℕ) (row : List (List ℕ)) → i < length rows → row ≡ get_or rows i row
      → length (values (take (i + 1) rows)) ≡ length (values (take i rows)) + cond (p row && not (is_null (field_of row column))) 1 0
  values_next rows i row within is =
      values_more rows i row within ∙ ap (λ (r : List (List ℕ)). length (values (take i rows)) + cond (p r && not (is_null (field_of r column))) 1 0) (sym is)

  -- as numbers with this many places
  module _ (places : ℕ) where
    abbrev pub numbers : List (List (List ℕ)) → List ℤ
    numbers rows = filter_map (decimal_of places) (values rows)

    numbers-append : (xs ys : List (List (List ℕ))) → numbers (xs ++ ys) ≡ numbers xs ++ numbers ys
    numbers-append xs ys = ap (filter_map (decimal_of places)) (values-append xs ys) ∙ filter_map-append (decimal_of places) (values xs) (values ys)

    one_number : (row : List (List ℕ)) (b : Bool) (field : List ℕ) → p row ≡ b → field_of row column ≡ field → numbers (row ∷ []) ≡ option_to_list (if b then decimal_of places field else None)
    unfolding number_of
    one_number row false field is at = rw is refl
    one_number row true [] is at = rw (is, at) (no_number places)
      where
        no_number : (k : ℕ) → [] ≡ option_to_list (decimal_of k [])
        no_number zero = refl
        no_number (suc k) = refl
    one_number row true (byte ∷ field) is at = rw (is, at, eqb-suc-zero (length field)) (alone (decimal_of places (byte ∷ field)))
      where
        alone : (o : Option ℤ) → cons_option o [] ≡ option_to_list o
        alone None = refl
        alone (Some n) = refl

    -- the next row adds its field to the numbers where it passes and the field is one
    numbers_more : (rows : List (List (List ℕ))) (i : ℕ) (d : List (List ℕ)) → i < length rows
        → numbers (take (i + 1) rows) ≡ numbers (take i rows) ++ option_to_list (if p (get_or rows i d) then decimal_of places (field_of (get_or rows i d) column) else None)
    numbers_more rows i d within =
        let row = get_or rows i d in
        ap numbers (take_more rows i d within)
        ∙ numbers-append (take i rows) (row ∷ [])
        ∙ ap (λ (l : List ℤ). numbers (take i rows) ++ l) (one_number row (p row) (field_of row column) refl refl)

    pub numbers_next : (rows : List (List (List ℕ))) (i : ℕ) (row : List (List ℕ)) (o : Option ℤ) → i < length rows → row ≡ get_or rows i row → o ≡ (if p row then decimal_of places (field_of row column) else None)
        → numbers (take (i + 1) rows) ≡ numbers (take i rows) ++ option_to_list o
    numbers_next rows i row o within is number =
        numbers_more rows i row within
        ∙ ap (λ (r : List (List ℕ)). numbers (take i rows) ++ option_to_list (if p r then decimal_of places (field_of r column) else None)) (sym is)
        ∙ ap (λ (n : Option ℤ). numbers (take i rows) ++ option_to_list n) (sym number)
