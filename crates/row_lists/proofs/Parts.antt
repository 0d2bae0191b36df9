-- Lists of rows by the parts of their keys.
use Rattle.std.proofs.Common.{◌≡◌, ◌<◌, ◌/◌, ◌^◌, ◌==◌, ◌++◌, ◌∙◌, ◌∷◌, [], ℕ, List, Bool, true, false, ap, append-nil, append_assoc, arith, get_or, if◌then◌else◌, length-set, refl, replicate, set, subst, sym}
use Rattle.std.proofs.Math.Nat.{mod-lt}
use Rattle.std.proofs.lemmas.Bool.{eqb-false, eqb-true}
use Rattle.std.proofs.lemmas.List.{get_or-replicate, get_or-set_other, get_or-set_same, length-replicate}
use Rattle.std.proofs.lemmas.List.Elements.{filter-append}
use Rattle.key_index.specs.Index.{hash}
use Rattle.row_lists.specs.Carried.{Carried}
use Rattle.row_lists.specs.Parts.{ArePartLists, part_of, rows_of_part, with_row, with_rows}

pub part_below : (key : List ℕ) → part_of key < 256
part_below key = mod-lt (hash key / 2 ^ 56) (omega arith)

no_lists : ArePartLists [] (replicate 256 [])
no_lists = record { many = length-replicate {A = List Carried} 256 []; each = λ part lt. get_or-replicate 256 part [] [] lt }

one_more : (part : ℕ) (rows : List Carried) (row : Carried) → rows_of_part part (rows ++ row ∷ []) ≡ rows_of_part part rows ++ (if part_of row.key == part then row ∷ [] else [])
one_more part rows row = filter-append (λ (r : Carried). part_of r.key == part) rows (row ∷ [])

list_after : (rows : List Carried) (lists : List (List Carried)) (row : Carried) → ArePartLists rows lists → (part : ℕ) → part < 256 → get_or (with_row lists row) part [] ≡ rows_of_part part (rows ++ row ∷ [])
list_after rows lists row h part lt = by (part_of row.key == part) refl ∙ sym (one_more part rows row)
  where
    own : ℕ
    own = part_of row.key

    grown : List Carried
    grown = get_or lists own [] ++ row ∷ []

    by : (b : Bool) → (part_of row.key == part) ≡ b → get_or (set lists own grown) part [] ≡ rows_of_part part rows ++ (if part_of row.key == part then row ∷ [] else [])
    by true e =
        let same : own ≡ part = eqb-true own part e in
        ap (λ (n : ℕ). get_or (set lists own grown) n []) (sym same)
        ∙ get_or-set_same lists own grown [] (omega (arith, h.many, part_below row.key))
        ∙ ap (λ (n : ℕ). get_or lists n [] ++ row ∷ []) same
        ∙ ap (λ (rs : List Carried). rs ++ row ∷ []) (h.each part lt)
        ∙ ap (λ (b : Bool). rows_of_part part rows ++ (if b then row ∷ [] else [])) (sym e)
    by false e =
        get_or-set_other lists own part grown [] (λ same. eqb-false own part e (sym same))
        ∙ h.each part lt
        ∙ sym (append-nil (rows_of_part part rows))
        ∙ ap (λ (b : Bool). rows_of_part part rows ++ (if b then row ∷ [] else [])) (sym e)

more_rows : (done rows : List Carried) (lists : List (List Carried)) → ArePartLists done lists → ArePartLists (done ++ rows) (with_rows lists rows)
more_rows done [] lists h = subst (λ (rs : List Carried). ArePartLists rs lists) (sym (append-nil done)) h
more_rows done (row ∷ rows) lists h =
    subst (λ (rs : List Carried). ArePartLists rs (with_rows (with_row lists row) rows)) (append_assoc done (row ∷ []) rows)
    (more_rows (done ++ row ∷ []) rows (with_row lists row) (record {
      many = length-set lists (part_of row.key) (get_or lists (part_of row.key) [] ++ row ∷ []) ∙ h.many;
      each = list_after done lists row h;
    }))

-- lists of no rows that some rows are put into are those of the rows by their parts
pub lists_by_part : (rows : List Carried) → ArePartLists rows (with_rows (replicate 256 []) rows)
lists_by_part rows = more_rows [] rows (replicate 256 []) no_lists
