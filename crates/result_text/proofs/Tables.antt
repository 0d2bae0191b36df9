-- The text of a table, one record at a time.
use Rattle.std.proofs.Common.{◌≡◌, ◌<◌, ◌+◌, ◌++◌, ◌∷◌, ◌∙◌, [], ap, sym, map, take, get_or, length, ℕ, List, refl, append_assoc, append-nil}
use Rattle.std.proofs.lemmas.List.{map-append, take_more}
use Rattle.std.proofs.lemmas.List.Folds.{concat-append}
use Rattle.csv.specs.Writing.{default_writer, row_text}
use Rattle.par_model.specs.Plan.{Plan}
use Rattle.par_model.specs.Table.{table_text, values_text}
use Rattle.par_model.specs.declared.state.AggState.{AggState}
use Rattle.partial_agg.specs.State.{empty_state}
use Rattle.result_text.specs.KeyColumns.{columns_in}
use Rattle.result_text.specs.Text.{Line, line_record, shown}

pub table_text-nil : table_text [] ≡ []
unfolding table_text
table_text-nil = refl

pub table_text-cons : (first : List (List ℕ)) (table : List (List (List ℕ))) → table_text (first ∷ table) ≡ row_text default_writer first ++ table_text table
unfolding table_text
table_text-cons first table = refl

pub table_text-one : (record' : List (List ℕ)) → table_text (record' ∷ []) ≡ row_text default_writer record'
unfolding table_text
table_text-one record' = append-nil (row_text default_writer record')

pub table_text-append : (table more : List (List (List ℕ))) → table_text (table ++ more) ≡ table_text table ++ table_text more
unfolding table_text
table_text-append table more = rw map-append (concat-append (map (row_text default_writer) table) (map (row_text default_writer) more))

-- one element more, after two maps
map_map-more : {X Y Z : Type 0} (f : Y → Z) (g : X → Y) (xs : List X) (i : ℕ) (d : X) → i < length xs → map f (map g (take (i + 1) xs)) ≡ map f (map g (take i xs)) ++ f (g (get_or xs i d)) ∷ []
map_map-more {X = X} {Y = Y} f g xs i d lt =
    ap (λ (t : List X). map f (map g t)) (take_more xs i d lt)
    ∙ ap (map f) (map-append g (take i xs) (get_or xs i d ∷ []))
    ∙ map-append f (map g (take i xs)) (g (get_or xs i d) ∷ [])

-- a line is written for one group more
pub table-more : {X Y : Type 0} (f : Y → List (List ℕ)) (g : X → Y) (xs : List X) (i : ℕ) (d : X) (before so_far now : List ℕ) → i < length xs
    → so_far ≡ before ++ table_text (map f (map g (take i xs))) → now ≡ so_far ++ row_text default_writer (f (g (get_or xs i d)))
    → now ≡ before ++ table_text (map f (map g (take (i + 1) xs)))
table-more f g xs i d before so_far now lt so_far_is now_is =
    let row = row_text default_writer (f (g (get_or xs i d))) in
    let front = map f (map g (take i xs)) in
    now_is ∙ ap (λ (t : List ℕ). t ++ row) so_far_is ∙ append_assoc before (table_text front) row
    ∙ ap (λ (t : List ℕ). before ++ (table_text front ++ t)) (sym (table_text-one (f (g (get_or xs i d)))))
    ∙ ap (λ (t : List ℕ). before ++ t) (sym (table_text-append front (f (g (get_or xs i d)) ∷ [])) ∙ sym (ap table_text (map_map-more f g xs i d lt)))

-- no line is written yet
pub table-none : (before : List ℕ) → before ≡ before ++ table_text []
table-none before = sym (ap (λ (t : List ℕ). before ++ t) table_text-nil ∙ append-nil before)

-- the one line of no rows
pub shown-none : (plan : Plan) (state : AggState) (lines : List Line) → length plan.groups ≡ 0 → length lines ≡ 0 → state ≡ empty_state
    → row_text default_writer (columns_in (length plan.groups) [] ++ values_text plan state) ≡ table_text (map (line_record plan) (shown plan lines))
shown-none plan state lines no_columns no_lines none = rw (no_columns, no_lines, none) (sym (table_text-one (values_text plan empty_state)))
