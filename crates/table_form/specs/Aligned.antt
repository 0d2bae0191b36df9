-- The text of a table whose columns are aligned: the header, a line of dashes, and the rows.
use Rattle.std.specs.Prelude.{◌-◌, ◌||◌, ◌++◌, ℕ, Bool, List, [], ◌∷◌, count_by, get_or, if◌then◌else◌, length, map, max, nat_le, nat_lt, replicate}
use Rattle.std.specs.List.{concat, join_by, range_with_len}
use Rattle.shown_text.specs.Shown.{shown_after}

-- a field as a terminal may have it: none of its bytes is a command to it
abbrev pub shown : List ℕ → List ℕ
shown field = shown_after 0 field

-- whether a byte of UTF-8 begins a character
abbrev pub begins_character : ℕ → Bool
begins_character byte = nat_lt byte 128 || nat_le 192 byte

-- how many characters a text has
abbrev pub characters : List ℕ → ℕ
characters text = count_by begins_character text

-- how many characters the widest field of a column has, as it is shown
abbrev pub column_size : ℕ → List (List (List ℕ)) → ℕ
column_size at [] = 0
column_size at (row ∷ rows) = max (characters (shown (get_or row at []))) (column_size at rows)

-- the sizes of the columns of a header, its names among them
abbrev pub column_sizes : List (List ℕ) → List (List (List ℕ)) → List ℕ
column_sizes header rows = map (λ at. column_size at (header ∷ rows)) (range_with_len 0 (length header))

-- two spaces, which come between two columns
abbrev pub gap : List ℕ
gap = 32 ∷ 32 ∷ []

-- a text in this many characters: to the left if it is a key, and otherwise to the right
abbrev pub aligned_cell : Bool → ℕ → List ℕ → List ℕ
aligned_cell is_key size text = if is_key then text ++ replicate (size - characters text) 32 else replicate (size - characters text) 32 ++ text

-- a row, in columns of these sizes
abbrev pub aligned_row : ℕ → List ℕ → List (List ℕ) → List ℕ
aligned_row keys sizes row = join_by (λ at. aligned_cell (nat_lt at keys) (get_or sizes at 0) (shown (get_or row at []))) gap (range_with_len 0 (length sizes)) ++ 10 ∷ []

-- a line of dashes under columns of these sizes
abbrev pub dashes : List ℕ → List ℕ
dashes sizes = join_by (λ size. replicate size 45) gap sizes ++ 10 ∷ []

-- a table, in columns of these sizes
abbrev pub sized_text : ℕ → List ℕ → List (List ℕ) → List (List (List ℕ)) → List ℕ
sized_text keys sizes header rows = aligned_row keys sizes header ++ (dashes sizes ++ concat (map (aligned_row keys sizes) rows))

-- a table, of which the first this many columns are keys
abbrev pub aligned_text : ℕ → List (List ℕ) → List (List (List ℕ)) → List ℕ
aligned_text keys header rows = sized_text keys (column_sizes header rows) header rows
