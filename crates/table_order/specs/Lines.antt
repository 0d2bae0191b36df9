-- The lines of a table's text, and the fields of a line, as a scan finds them that only counts quotes.
use Rattle.std.specs.Prelude.{◌==◌, ◌||◌, ◌&&◌, ◌+◌, ◌-◌, ℕ, zero, suc, Bool, true, false, not, List, [], ◌∷◌, drop, if◌then◌else◌, length, slice_index, take}

-- a byte that ends a line, or also a field
abbrev pub is_end : Bool → ℕ → Bool
is_end or_comma byte = (byte == 10) || (or_comma && (byte == 44))

-- how many bytes come before the first end outside quotes
unfoldable pub size_to : Bool → Bool → List ℕ → ℕ
size_to or_comma quoted [] = 0
size_to or_comma quoted (byte ∷ rest) =
    if byte == 34 then 1 + size_to or_comma (not quoted) rest
    else (if not quoted && is_end or_comma byte then 0 else 1 + size_to or_comma quoted rest)

-- what comes after the first field
abbrev pub after_field : List ℕ → List ℕ
after_field line = drop (size_to true false line + 1) line

-- what comes after this many fields
unfoldable pub after_fields : ℕ → List ℕ → List ℕ
after_fields zero line = line
after_fields (suc count) line = after_fields count (after_field line)

-- the bytes between the quotes of a field's text, or all of it if it has none
abbrev pub between_quotes : List ℕ → List ℕ
between_quotes text = if slice_index text 0 == 34 then take (length text - 2) (drop 1 text) else text
