-- The text of a record that has the fields of one and then those of another.
use Rattle.std.proofs.Common.{◌≡◌, ◌<◌, ◌∙◌, ℕ, Bool, false, List, [], ◌∷◌, ◌++◌, ap, append_assoc, arith, length, length-append, refl, sym}
use Rattle.std.specs.Prelude.{if◌then◌else◌}
use Rattle.csv.specs.Writing.{default_writer, field_text, fields_text, is_blank, row_body, row_text}
use Rattle.answer_text.proofs.Records.{blank-other}

fields-append : (xs ys : List (List ℕ)) → fields_text default_writer (xs ++ ys) ≡ fields_text default_writer xs ++ fields_text default_writer ys
unfolding fields_text
fields-append [] ys = refl
fields-append (x ∷ xs) ys = ap (λ (t : List ℕ). 44 ∷ t) (ap (λ (t : List ℕ). field_text default_writer x ++ t) (fields-append xs ys) ∙ sym (append_assoc (field_text default_writer x) (fields_text default_writer xs) (fields_text default_writer ys)))

-- the fields of both, with a comma between them
body-beside : (left right : List (List ℕ)) → 0 < length left → 0 < length right → row_body default_writer (left ++ right) ≡ row_body default_writer left ++ (44 ∷ row_body default_writer right)
unfolding fields_text
body-beside [] right some more = absurd (omega (arith, some))
body-beside (x ∷ xs) [] some more = absurd (omega (arith, more))
body-beside (x ∷ xs) (y ∷ ys) some more =
    ap (λ (t : List ℕ). field_text default_writer x ++ t) (fields-append xs (y ∷ ys)) ∙ sym (append_assoc (field_text default_writer x) (fields_text default_writer xs) (fields_text default_writer (y ∷ ys)))

-- the whole record
pub row-beside : (left right : List (List ℕ)) → 0 < length left → 0 < length right
    → row_body default_writer left ++ (44 ∷ (row_body default_writer right ++ 10 ∷ [])) ≡ row_text default_writer (left ++ right)
row-beside left right some more =
    let size = length-append left right in
    let shows : is_blank default_writer (left ++ right) ≡ false = blank-other (left ++ right) (omega (arith, size, some, more)) in
    sym (ap (λ (b : Bool). row_body default_writer (left ++ right) ++ ((if b then 34 ∷ 34 ∷ [] else []) ++ 10 ∷ [])) shows
    ∙ ap (λ (t : List ℕ). t ++ 10 ∷ []) (body-beside left right some more) ∙ append_assoc (row_body default_writer left) (44 ∷ row_body default_writer right) (10 ∷ []))
