-- The text of rows, and what is known of them.
use Rattle.std.specs.Prelude.{◌≡◌, ◌<◌, ℕ, Bool, List, false, get_or, map, true}
use Rattle.csv_rows.specs.Records.{record_at}
use Rattle.par_model.specs.Table.{table_text}
use Rattle.answer_text.specs.Special.{BeginsSpecial}

-- the text of rows, by their numbers, in this order
abbrev pub rows_text : List (List (List ℕ)) → List ℕ → List ℕ
rows_text records numbers = table_text (map (record_at records) numbers)

-- what is known of the first n of some rows: those that are marked begin with a field that calls for quotes
abbrev pub AreKnown : List (List (List ℕ)) → List ℕ → List Bool → ℕ → Type 0
AreKnown records numbers begins n = (k : ℕ) → k < n → get_or begins k false ≡ true → BeginsSpecial (record_at records (get_or numbers k 0))
