-- What the words `gen SEED ROWS` ask for.
use Rattle.std.specs.Prelude.{◌==◌, ◌&&◌, ◌-◌, ◌^◌, [], ℕ, Bool, List, Option, None, Some, bytes_eq, codes, if◌then◌else◌, length, nat_le, nat_lt, option_and_then, option_map, slice_index_or}
use Rattle.std.specs.Char.{is_ascii_digit}
use Rattle.std.specs.List.{list_all}
use Rattle.std.specs.Str.Parse.{digits_value}
use Rattle.par_model.specs.Outcome.{most_rows}
use Rattle.gen_query.specs.declared.words.GenWords.{GenWords}

-- the seed of the generator, and the number of rows
pub record Asked : Type 0 where
  pub seed : ℕ
  pub rows : ℕ

-- words that begin with `gen`
abbrev pub is_gen : List (List ℕ) → Bool
is_gen words = bytes_eq (slice_index_or words 0 []) (codes "gen")

-- one digit or more, at most this many, with a value up to `most`
abbrev pub number_in : ℕ → ℕ → List ℕ → Option ℕ
number_in longest most text =
    if (nat_lt 0 (length text) && nat_le (length text) longest) && (list_all is_ascii_digit text && nat_le (digits_value 10 text) most)
    then Some (digits_value 10 text) else None

-- a number that is not 0
abbrev pub not_zero : ℕ → Option ℕ
not_zero n = if n == 0 then None else Some n

-- a seed: 1 to 20 digits, with a value from 1 to 2^64 - 1
abbrev pub seed_in : List ℕ → Option ℕ
seed_in text = option_and_then not_zero (number_in 20 (2 ^ 64 - 1) text)

-- a number of rows: 1 to 7 digits, with a value up to the most rows of an input
abbrev pub rows_in : List ℕ → Option ℕ
rows_in text = number_in 7 most_rows text

-- both
abbrev pub asked_in : List ℕ → List ℕ → Option Asked
asked_in seed rows = option_and_then (λ s. option_map (λ r. record { seed = s; rows = r }) (rows_in rows)) (seed_in seed)

-- what the words ask for, if they are `gen`, such a seed and such a number
unfoldable pub gen_of : List (List ℕ) → Option Asked
gen_of words = if is_gen words && (length words == 3) then asked_in (slice_index_or words 1 []) (slice_index_or words 2 []) else None

-- what was read from words
abbrev pub asked_by : GenWords → Asked
asked_by words = record { seed = words.seed; rows = words.rows }
