-- The text of rows in order, one row at a time.
use Rattle.std.proofs.Common.{◌≡◌, ◌<◌, ◌+◌, ◌++◌, ◌∷◌, ◌∙◌, [], ap, sym, map, take, drop, get_or, length, ℕ, List, refl, append-nil, take-append-drop}
use Rattle.std.proofs.lemmas.List.{map-append, take_more}
use Rattle.std.proofs.lemmas.List.Folds.{concat-append}
use Rattle.std.specs.List.{concat}
use Rattle.csv.specs.Writing.{default_writer, row_text}
use Rattle.par_model.specs.Table.{table_text}

pub text-none : table_text [] ≡ []
unfolding table_text
text-none = refl

-- a record, and those behind it
pub text-first : (first : List (List ℕ)) (table : List (List (List ℕ))) → row_text default_writer first ++ table_text table ≡ table_text (first ∷ table)
unfolding table_text
text-first first table = refl

text-one : (first : List (List ℕ)) → row_text default_writer first ≡ table_text (first ∷ [])
unfolding table_text
text-one first = sym (append-nil (row_text default_writer first))

text-append : (table more : List (List (List ℕ))) → table_text table ++ table_text more ≡ table_text (table ++ more)
unfolding table_text
text-append table more = sym (ap concat (map-append (row_text default_writer) table more) ∙ concat-append (map (row_text default_writer) table) (map (row_text default_writer) more))

module _ {X : Type 0} (f : X → List (List ℕ)) where
  -- one row more
  pub row-more : (xs : List X) (i : ℕ) (x : X) → i < length xs → get_or xs i x ≡ x → table_text (map f (take i xs)) ++ row_text default_writer (f x) ≡ table_text (map f (take (i + 1) xs))
  row-more xs i x lt there =
      let front = map f (take i xs) in
      let more : map f (take (i + 1) xs) ≡ front ++ f x ∷ [] = ap (map f) (take_more xs i x lt) ∙ map-append f (take i xs) (get_or xs i x ∷ []) ∙ ap (λ (y : X). front ++ f y ∷ []) there in
      ap (λ (t : List ℕ). table_text front ++ t) (text-one (f x)) ∙ text-append front (f x ∷ []) ∙ sym (ap table_text more)

  -- the rows so far, and the others
  pub rows-cut : (xs : List X) (i : ℕ) → table_text (map f (take i xs)) ++ table_text (map f (drop i xs)) ≡ table_text (map f xs)
  rows-cut xs i =
      text-append (map f (take i xs)) (map f (drop i xs)) ∙ ap table_text (sym (map-append f (take i xs) (drop i xs)) ∙ ap (map f) (take-append-drop i xs))
