-- What the words `merge COLUMNS N` ask for.
use Rattle.std.specs.Prelude.{◌==◌, ◌&&◌, ◌∷◌, [], ℕ, Bool, false, List, Option, Some, None, bytes_eq, codes, if◌then◌else◌, length, slice_index_or}
use Rattle.csv_rows.specs.Readings.{plain}
use Rattle.par_model.specs.Named.{NamedItem}
use Rattle.par_model.specs.declared.plan.ItemKind.TheVariants as kind
use Rattle.plan_spec.specs.Grammar.{names_in, number_in}
use Rattle.plan_spec.specs.Query.{Query, query_by}
use Rattle.plan_spec.specs.declared.plan.TheConstants.{MOST_WORKERS}

-- words that begin with `merge`
abbrev pub is_merge : List (List ℕ) → Bool
is_merge words = bytes_eq (slice_index_or words 0 []) (codes "merge")

-- the number of rows
abbrev pub row_count : NamedItem
row_count = record { kind = kind.Rows; column = None; places = 0 }

-- a query that groups by these columns, counts rows, and is made by this many workers
abbrev pub merge_query : List ℕ → List ℕ → Option Query
merge_query columns workers = query_by (names_in columns) (Some (row_count ∷ [])) (Some []) (Some false) (number_in MOST_WORKERS workers) (Some 0) (Some plain)

-- the query of the words, if they are `merge`, one to eight names between commas, and a number of workers
unfoldable pub merge_of : List (List ℕ) → Option Query
merge_of words = if is_merge words && (length words == 3) then merge_query (slice_index_or words 1 []) (slice_index_or words 2 []) else None
