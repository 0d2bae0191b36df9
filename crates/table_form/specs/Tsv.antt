-- The text of a table with its fields divided by tabs: text/tab-separated-values, which has no tab or end of line in a field,
-- with the escapes of PostgreSQL's COPY.
use Rattle.std.specs.Prelude.{◌==◌, ◌||◌, ◌++◌, ℕ, Bool, List, [], ◌∷◌, codes, if◌then◌else◌, map}
use Rattle.std.specs.List.{concat, flat_map, join_by}

-- a byte of a field: a tab, an end of line or a backslash by a backslash and a letter
abbrev pub tsv_byte : ℕ → List ℕ
tsv_byte byte =
    if byte == 9 then codes "\\t"
    else (if byte == 10 then codes "\\n"
    else (if byte == 13 then codes "\\r"
    else (if byte == 92 then codes "\\\\"
    else byte ∷ [])))

-- whether a byte is not written as it is
abbrev pub is_tsv_special : ℕ → Bool
is_tsv_special byte = (byte == 9) || ((byte == 10) || ((byte == 13) || (byte == 92)))

-- a field, of which nothing is written if it is empty
abbrev pub tsv_field : List ℕ → List ℕ
tsv_field field = flat_map tsv_byte field

-- a row: its fields with a tab between two, and a line feed
abbrev pub tsv_row : List (List ℕ) → List ℕ
tsv_row row = join_by tsv_field (9 ∷ []) row ++ 10 ∷ []

-- a table, with its header as the first row
abbrev pub tsv_text : List (List (List ℕ)) → List ℕ
tsv_text table = concat (map tsv_row table)
