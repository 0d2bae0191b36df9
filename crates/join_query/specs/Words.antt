-- What the words `join COLUMN N` ask for.
use Rattle.std.specs.Prelude.{◌==◌, ◌&&◌, [], ℕ, Bool, List, Option, None, bytes_eq, codes, if◌then◌else◌, length, option_map, slice_index_or}
use Rattle.plan_spec.specs.Grammar.{number_in}
use Rattle.join_query.specs.declared.words.JoinWords.{JoinWords}

-- the name of the column, and the number of workers
pub record Asked : Type 0 where
  pub column : List ℕ
  pub workers : ℕ

-- words that begin with `join`
abbrev pub is_join : List (List ℕ) → Bool
is_join words = bytes_eq (slice_index_or words 0 []) (codes "join")

-- a name that is not empty, and one to five digits with a value up to 64
abbrev pub asked_in : List ℕ → List ℕ → Option Asked
asked_in column workers = if length column == 0 then None else option_map (λ n. record { column = column; workers = n }) (number_in 64 workers)

-- what the words ask for, if they are `join`, such a name and such a number
unfoldable pub join_of : List (List ℕ) → Option Asked
join_of words = if is_join words && (length words == 3) then asked_in (slice_index_or words 1 []) (slice_index_or words 2 []) else None

-- what was read from words
abbrev pub asked_by : JoinWords → Asked
asked_by words = record { column = words.column.now; workers = words.workers }
