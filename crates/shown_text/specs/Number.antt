-- What is said of a field that is no number.
use Rattle.std.specs.Prelude.{[], ◌==◌, ◌&&◌, ◌++◌, ℕ, Bool, zero, suc, List, codes, decimal, if◌then◌else◌, nat_le}
use Rattle.std.specs.Char.{is_ascii_whitespace}
use Rattle.std.specs.List.{list_all, list_any}
use Rattle.shown_text.specs.Shown.{shown_text}

-- what a field is not that is no number of at most this many places
abbrev pub kind_text : ℕ → List ℕ
kind_text zero = codes " is not an integer: "
kind_text (suc zero) = codes " is not a decimal with at most 1 place: "
kind_text places = codes " is not a decimal with at most " ++ (decimal places ++ codes " places: ")

-- whether a byte is a point
abbrev pub is_point : ℕ → Bool
is_point byte = byte == 46

-- whether a byte is a digit
abbrev pub is_digit : ℕ → Bool
is_digit byte = nat_le 48 byte && nat_le byte 57

-- what may help if a field has digits: one of nothing else is too large, and one with a point may be a decimal, which is no number if
-- there are no places
abbrev pub digits_help : ℕ → List ℕ → List ℕ
digits_help places field = if list_all is_digit field then codes "; it does not fit in 64 bits"
    else (if (places == 0) && list_any is_point field then codes "; see --decimals" else [])

-- what may help: a field without a digit may be blank, or a word for a null
abbrev pub help_text : ℕ → List ℕ → List ℕ
help_text places field = if list_any is_digit field then digits_help places field
    else (if list_all is_ascii_whitespace field then codes "; see --trim" else codes "; see --null")

-- a field of a column that is no number of at most this many places
abbrev pub number_text : List ℕ → ℕ → List ℕ → List ℕ
number_text name places field = codes "column " ++ (shown_text name ++ (kind_text places ++ (shown_text field ++ help_text places field)))
