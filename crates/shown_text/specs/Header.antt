-- What is said of a name that a header lacks.
use Rattle.std.specs.Prelude.{[], ◌==◌, ◌&&◌, ◌||◌, ◌++◌, ℕ, Bool, List, codes, decimal, get_or, if◌then◌else◌, length, map, min, nat_lt, take}
use Rattle.std.specs.List.{concat, list_any}
use Rattle.shown_text.specs.Shown.{shown_text}
use Rattle.shown_text.specs.declared.header.TheConstants.{MOST_FIELDS}

-- a field after a space
abbrev pub field_text : List ℕ → List ℕ
field_text field = codes " " ++ shown_text field

-- what comes after the fields that are named, of this many: two points if there are more
abbrev pub rest_text : ℕ → List ℕ
rest_text width = if nat_lt MOST_FIELDS width then codes " .." else []

-- whether a byte may part fields instead of a comma: a tab, a semicolon or a bar
abbrev pub may_part : ℕ → Bool
may_part byte = (byte == 9) || ((byte == 59) || (byte == 124))

-- what may help: a header of one field that has such a byte may have another separator
abbrev pub parting_help : List (List ℕ) → List ℕ
parting_help header = if (length header == 1) && list_any may_part (get_or header 0 []) then codes "; see --separator" else []

-- the name, how many fields the header has, the first of them, and what may help
abbrev pub missing_text : List ℕ → List (List ℕ) → List ℕ
missing_text name header = codes "no column " ++ (shown_text name ++ (codes "; the header has " ++ (decimal (length header)
    ++ (codes ":" ++ (concat (map field_text (take (min (length header) MOST_FIELDS) header)) ++ (rest_text (length header) ++ parting_help header))))))
