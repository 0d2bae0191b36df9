-- A row as far as its group needs it, and rows one after another as bytes.
use Rattle.std.specs.Prelude.{◌≡◌, ◌≤◌, ◌+◌, ◌==◌, ◌++◌, ◌∷◌, [], ℕ, ℤ, zero, suc, pos, List, Option, Some, None, FitsSigned, IfSome, drop, get_or, if◌then◌else◌, length, take}
use Rattle.std.specs.Int.{cast_signed, cast_unsigned, from_le_bytes, to_le_bytes, w64}
use Rattle.std.specs.List.{AllByRecursion, flat_map}
use Rattle.std.specs.Ordering.{int_eq}
use Rattle.par_model.specs.Refuse.{longest_key}
use Rattle.row_lists.specs.declared.list.TheConstants.{NEW, NONE, SAME}

-- a key, and the value that each aggregate takes of the row
pub record Carried : Type 0 where
  pub key : List ℕ
  pub values : List (Option ℤ)

abbrev pub carried : List ℕ → List (Option ℤ) → Carried
carried key values = record { key = key; values = values }

-- a value that is none, or a number of 64 bits
abbrev pub IsValue : Option ℤ → Type 0
IsValue value = IfSome value (FitsSigned w64)

-- a row that has a place in a list
pub record IsCarried (row : Carried) : Type 0 where
  pub short : length row.key ≤ longest_key
  pub few : length row.values ≤ 8
  pub whole : AllByRecursion IsValue row.values

-- ---- as bytes

-- a number in 8 bytes, in two's complement, the lowest first; and the number that bytes begin with
abbrev pub number_bytes : ℤ → List ℕ
number_bytes n = to_le_bytes w64 (cast_unsigned w64 n)

abbrev pub number_in : List ℕ → ℤ
number_in bytes = cast_signed w64 (from_le_bytes w64 (take 8 bytes))

-- the number that is known after a value, and the bytes of a value if this number is known before it
abbrev pub last_of : ℤ → Option ℤ → ℤ
last_of last None = last
last_of last (Some n) = n

abbrev pub value_bytes : ℤ → Option ℤ → List ℕ
value_bytes last None = NONE ∷ []
value_bytes last (Some n) = if int_eq n last then SAME ∷ [] else NEW ∷ number_bytes n

unfoldable pub values_bytes : ℤ → List (Option ℤ) → List ℕ
values_bytes last [] = []
values_bytes last (value ∷ values) = value_bytes last value ++ values_bytes (last_of last value) values

-- a row as bytes: the key after its length in one byte, and the values after their number in one byte
abbrev pub row_bytes : Carried → List ℕ
row_bytes row = length row.key ∷ (row.key ++ length row.values ∷ values_bytes (pos 0) row.values)

-- ---- from bytes

-- this many values that bytes begin with, and what comes after them
unfoldable pub values_in : ℕ → ℤ → List ℕ → List (Option ℤ)
values_in zero last bytes = []
values_in (suc count) last [] = []
values_in (suc count) last (kind ∷ rest) =
    if kind == NONE then None ∷ values_in count last rest
    else (if kind == SAME then Some last ∷ values_in count last rest
    else Some (number_in rest) ∷ values_in count (number_in rest) (drop 8 rest))

unfoldable pub after_values : ℕ → List ℕ → List ℕ
after_values zero bytes = bytes
after_values (suc count) [] = []
after_values (suc count) (kind ∷ rest) =
    if kind == NONE then after_values count rest
    else (if kind == SAME then after_values count rest
    else after_values count (drop 8 rest))

-- the rows of bytes, and no more of them than a number
unfoldable pub rows_from : ℕ → List ℕ → List Carried
rows_from zero bytes = []
rows_from (suc most) [] = []
rows_from (suc most) (size ∷ rest) =
    carried (take size rest) (values_in (get_or rest size 0) (pos 0) (drop (size + 1) rest)) ∷ rows_from most (after_values (get_or rest size 0) (drop (size + 1) rest))

-- the rows of bytes: each has a byte or more
abbrev pub rows_in : List ℕ → List Carried
rows_in bytes = rows_from (length bytes) bytes

-- bytes are those of the rows in them
pub record AreRows (bytes : List ℕ) : Type 0 where
  pub each : AllByRecursion IsCarried (rows_in bytes)
  pub are : flat_map row_bytes (rows_in bytes) ≡ bytes
