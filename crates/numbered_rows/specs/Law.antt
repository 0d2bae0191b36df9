-- What a table is behind a header of numbers.
use Rattle.std.specs.Prelude.{◌≡◌, ◌<◌, ◌+◌, ◌∷◌, ℕ, List, decimal, map, take}
use Rattle.std.specs.List.{range_with_len}
use Rattle.csv_rows.specs.Readings.{IsSeparator, cleaned, records_in}
use Rattle.csv_rows.specs.declared.cleaning.Reading.{Reading}
use Rattle.numbered_rows.specs.Numbers.{numbered, width_of}
use Rattle.numbered_rows.specs.declared.front.TheConstants.{FRONT}

-- the numbers of this many columns, from 1 on
abbrev pub column_numbers : ℕ → List (List ℕ)
column_numbers width = map (λ at. decimal (at + 1)) (range_with_len 0 width)

-- The law: if a record begins in the first FRONT bytes, the first record is that of the numbers, one for each of its fields there, each
-- number as any field is read; and after it come all records of the bytes as they were
abbrev pub NumbersAreHeader : Type 0
NumbersAreHeader = (reading : Reading) (bytes : List ℕ) → IsSeparator reading.separator → 0 < width_of reading.separator (take FRONT bytes)
    → records_in reading (numbered reading.separator bytes) ≡ map (cleaned reading) (column_numbers (width_of reading.separator (take FRONT bytes))) ∷ records_in reading bytes
