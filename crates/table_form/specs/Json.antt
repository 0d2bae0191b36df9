-- The text of a table as lines of JSON (RFC 8259): an object a row, whose members are the columns in their order.
use Rattle.std.specs.Prelude.{◌==◌, ◌||◌, ◌/◌, ◌%◌, ◌++◌, ℕ, Bool, List, [], ◌∷◌, codes, get_or, if◌then◌else◌, length, map, nat_lt}
use Rattle.std.specs.Char.{digit_char}
use Rattle.std.specs.List.{concat, flat_map, join_by, range_with_len}
use Rattle.std.specs.Str.Lossy.{utf8_lossy}
use Rattle.table_form.specs.Number.{is_json_number}

-- a control character by its number, of four digits of base 16
abbrev pub json_code : ℕ → List ℕ
json_code byte = codes "\\u00" ++ (digit_char (byte / 16) ∷ digit_char (byte % 16) ∷ [])

-- a control character, by its letter if it has one
abbrev pub json_control : ℕ → List ℕ
json_control byte =
    if byte == 8 then codes "\\b"
    else (if byte == 9 then codes "\\t"
    else (if byte == 10 then codes "\\n"
    else (if byte == 12 then codes "\\f"
    else (if byte == 13 then codes "\\r"
    else json_code byte))))

-- a byte of a string: quotes and backslashes after a backslash, and control characters by a letter or a number
abbrev pub json_byte : ℕ → List ℕ
json_byte byte =
    if byte == 34 then codes "\\\""
    else (if byte == 92 then codes "\\\\"
    else (if nat_lt byte 32 then json_control byte
    else byte ∷ []))

-- whether a byte is not written as it is
abbrev pub is_json_special : ℕ → Bool
is_json_special byte = nat_lt byte 32 || ((byte == 34) || (byte == 92))

-- a string; bytes that are not UTF-8 become U+FFFD
abbrev pub json_string : List ℕ → List ℕ
json_string text = 34 ∷ (flat_map json_byte (utf8_lossy text) ++ 34 ∷ [])

-- the value of an aggregate: null if there is none, a number if it is one, and otherwise a string
abbrev pub json_value : List ℕ → List ℕ
json_value field = if length field == 0 then codes "null" else (if is_json_number field then field else json_string field)

-- a field of a key, or of a value
abbrev pub json_field : Bool → List ℕ → List ℕ
json_field is_key field = if is_key then json_string field else json_value field

-- a name and its colon
abbrev pub json_name : List ℕ → List ℕ
json_name name = json_string name ++ 58 ∷ []

-- the member of the column at a place, under names with their colons
abbrev pub json_member : ℕ → List (List ℕ) → List (List ℕ) → ℕ → List ℕ
json_member keys names row at = get_or names at [] ++ json_field (nat_lt at keys) (get_or row at [])

-- the object of a row, which has a member for each name, and a line feed
abbrev pub json_row : ℕ → List (List ℕ) → List (List ℕ) → List ℕ
json_row keys names row = codes "{" ++ (join_by (json_member keys names row) (44 ∷ []) (range_with_len 0 (length names)) ++ codes "}\n")

-- the rows of a table, of which the first this many columns are keys
abbrev pub json_text : ℕ → List (List ℕ) → List (List (List ℕ)) → List ℕ
json_text keys header rows = concat (map (json_row keys (map json_name header)) rows)
