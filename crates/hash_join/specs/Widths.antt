-- How many words the keys of a table have.
use Rattle.std.specs.Prelude.{◌+◌, ◌-◌, ℕ, zero, suc, length, max}
use Rattle.std.specs.Int.{div_ceil}
use Rattle.csv_rows.specs.Records.{field_of}
use Rattle.row_blocks.specs.Blocks.{Table}

-- the bytes of the longest field that the first rows have in the column, 0 if there are no rows
abbrev pub longest_of : Table → ℕ → ℕ → ℕ
longest_of records column zero = 0
longest_of records column (suc rows) = max (longest_of records column rows) (length (field_of records (suc rows) column))

-- the words of 8 bytes that the longest field of all rows takes
abbrev pub field_words : Table → ℕ → ℕ
field_words records column = div_ceil (longest_of records column (length records - 1)) 8

-- the words of a key: one for the length of the field, and those of its bytes
abbrev pub key_words : Table → ℕ → ℕ
key_words records column = 1 + field_words records column
