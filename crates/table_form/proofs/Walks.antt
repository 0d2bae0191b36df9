-- A walk over the rows of a table's text, which puts the text of each.
use Rattle.std.proofs.Common.{◌≡◌, ◌<◌, ◌∙◌, ◌∷◌, ◌++◌, [], ℕ, List, ap, append-nil, append_assoc, arith, length, length-append, map, refl, sym}
use Rattle.std.specs.List.{concat}
use Rattle.csv.specs.Writing.{default_writer, read_back, row_text}
use Rattle.par_model.specs.Table.{table_text}
use Rattle.table_order.proofs.Scan.{line-some}

abbrev pub Table : Type 0
Table = List (List (List ℕ))

-- the texts of rows, as they are read
abbrev pub forms : (List (List ℕ) → List ℕ) → Table → List ℕ
forms r table = concat (map r (map read_back table))

-- what the reading of a row gives, if a text begins with one
abbrev pub Reads : List ℕ → List (List ℕ) → List ℕ → Type 0
Reads left fields next = (row : List (List ℕ)) (rest : List ℕ) → left ≡ row_text default_writer row ++ rest → (fields ≡ read_back row) × (next ≡ rest)

-- what is left of a table's text, and what was put of the rows before it
abbrev pub Walks : (List (List ℕ) → List ℕ) → List ℕ → List ℕ → List ℕ → List ℕ → Type 0
Walks r whole left start out = (table : Table) → whole ≡ table_text table → (rest : Table) × (left ≡ table_text rest) × (out ++ forms r rest ≡ start ++ forms r table)

pub walk-init : (r : List (List ℕ) → List ℕ) (whole start : List ℕ) → Walks r whole whole start start
walk-init r whole start table is = (table, is, refl)

text-some : (row : List (List ℕ)) (rest : Table) → 0 < length (table_text (row ∷ rest))
unfolding table_text
text-some row rest = let some = line-some row in omega (arith, some, length-append (row_text default_writer row) (table_text rest))

text-none : length (table_text []) ≡ 0
unfolding table_text
text-none = refl

pub text-first : (row : List (List ℕ)) (rest : Table) → table_text (row ∷ rest) ≡ row_text default_writer row ++ table_text rest
unfolding table_text
text-first row rest = refl

-- the first row of a table that begins a text
pub first-read : (left next : List ℕ) (fields row : List (List ℕ)) (rest : Table) → Reads left fields next → left ≡ table_text (row ∷ rest) → (fields ≡ read_back row) × (next ≡ table_text rest)
first-read left next fields row rest reads is = reads row (table_text rest) (is ∙ text-first row rest)

-- there is a first row, if there is some text
pub some-rows : {P : Type 0} (left : List ℕ) (rest : Table) → 0 < length left → left ≡ table_text rest → ((row : List (List ℕ)) (more : Table) → rest ≡ row ∷ more → P) → P
some-rows left [] some is next = let size = ap length is in let no : ⊥ = omega (arith, some, size, text-none) in absurd no
some-rows left (row ∷ more) some is next = next row more refl

-- and none, if there is no text
pub no-rows : (left : List ℕ) (rest : Table) → length left ≡ 0 → left ≡ table_text rest → rest ≡ []
no-rows left [] none is = refl
no-rows left (row ∷ more) none is = let size = ap length is in let no : ⊥ = omega (arith, none, size, text-some row more) in absurd no

walk-step : (r : List (List ℕ) → List ℕ) (left next before after all : List ℕ) (fields : List (List ℕ)) (rest : Table) → 0 < length left → Reads left fields next → after ≡ before ++ r fields
    → left ≡ table_text rest → before ++ forms r rest ≡ all → (more : Table) × (next ≡ table_text more) × (after ++ forms r more ≡ all)
walk-step r left next before after all fields [] some reads after_is is so_far = let size = ap length is in let no : ⊥ = omega (arith, some, size, text-none) in absurd no
walk-step r left next before after all fields (row ∷ more) some reads after_is is so_far =
    let first = first-read left next fields row more reads is in
    (more, first.1, ap (λ (t : List ℕ). t ++ forms r more) (after_is ∙ ap (λ (f : List (List ℕ)). before ++ r f) first.0) ∙ append_assoc before (r (read_back row)) (forms r more) ∙ so_far)

-- one row more
pub walk-more : (r : List (List ℕ) → List ℕ) (whole left next start before after : List ℕ) (fields : List (List ℕ)) → 0 < length left → Reads left fields next → after ≡ before ++ r fields
    → Walks r whole left start before → Walks r whole next start after
walk-more r whole left next start before after fields some reads after_is walk table is =
    let so_far = walk table is in
    walk-step r left next before after (start ++ forms r table) fields so_far.0 some reads after_is so_far.1 so_far.2

-- all rows
pub walk-end : (r : List (List ℕ) → List ℕ) (whole left start out : List ℕ) → length left ≡ 0 → Walks r whole left start out → (table : Table) → whole ≡ table_text table → out ≡ start ++ forms r table
walk-end r whole left start out none walk table is =
    let so_far = walk table is in
    let no_more = no-rows left so_far.0 none so_far.1 in
    sym (append-nil out) ∙ ap (λ (rest : Table). out ++ forms r rest) (sym no_more) ∙ so_far.2

-- nothing was put yet
pub walk-from : (r : List (List ℕ) → List ℕ) (whole start out : List ℕ) → out ≡ start → Walks r whole whole start out
walk-from r whole start out is table table_is = (table, table_is, ap (λ (t : List ℕ). t ++ forms r table) is)
