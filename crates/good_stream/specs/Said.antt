-- The line that says which rows were left out.
use Rattle.std.specs.Prelude.{◌++◌, ℕ, List, codes, decimal, string_bytes}
use Rattle.stream_groups.specs.Stops.{row_front_of}
use Rattle.good_groups.specs.declared.reading.LeftOut.{LeftOut}

-- how many there are, and of the first one what its refusal says, by numbers that are written as digits
abbrev pub left_out_text_of : List ℕ → List ℕ → List ℕ → List ℕ → List ℕ
left_out_text_of count row at said = codes "rows left out: " ++ (count ++ (codes "; the first: " ++ (row_front_of row at ++ said)))

-- the same of the rows
abbrev pub left_out_text : LeftOut → List ℕ
left_out_text rows = left_out_text_of (decimal rows.count) (decimal rows.first.row) (decimal rows.first.line) (string_bytes rows.first.said)
