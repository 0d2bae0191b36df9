-- Numbers as the texts that write them, of any length, all with the same number of digits after the point.
use Rattle.std.specs.Prelude.{◌-◌, ◌+◌, ◌==◌, ◌&&◌, ◌||◌, ◌++◌, ℕ, ℤ, Bool, List, drop, if◌then◌else◌, length, nat_lt, slice_index, take}
use Rattle.std.specs.Char.{is_ascii_digit}
use Rattle.std.specs.List.{after_first, list_all}
use Rattle.std.specs.Str.Parse.{digits_value, starts_with_minus, without_leading_sign}
use Rattle.par_model.specs.Number.{is_point, signed}

-- how many bytes the point and this many digits after it take; none without places
abbrev pub tail_size : ℕ → ℕ
tail_size places = if places == 0 then 0 else places + 1

-- the bytes before the point of digits with this many places
abbrev pub whole_of : ℕ → List ℕ → List ℕ
whole_of places digits = take (length digits - tail_size places) digits

-- the point and the bytes after it
abbrev pub tail_of : ℕ → List ℕ → List ℕ
tail_of places digits = drop (length digits - tail_size places) digits

-- the bytes after the point
abbrev pub part_of : ℕ → List ℕ → List ℕ
part_of places digits = drop 1 (tail_of places digits)

-- nothing without places, and otherwise a point and ASCII digits
abbrev pub is_tail : ℕ → List ℕ → Bool
is_tail places tail = (places == 0) || ((slice_index tail 0 == 46) && list_all is_ascii_digit (drop 1 tail))

-- one or more ASCII digits, and a point and this many digits more if there are places
abbrev pub is_numeral : ℕ → List ℕ → Bool
is_numeral places digits = nat_lt 0 (length (whole_of places digits)) && (list_all is_ascii_digit (whole_of places digits) && is_tail places (tail_of places digits))

-- the number that they write, in units of 10 ^ -places
abbrev pub size_of : ℕ → List ℕ → ℕ
size_of places digits = digits_value 10 (whole_of places digits ++ part_of places digits)

-- whether a text writes a number with this many places, after at most one sign
abbrev pub is_number : ℕ → List ℕ → Bool
is_number places text = is_numeral places (without_leading_sign text)

-- the number that it writes, in units of 10 ^ -places
abbrev pub units_of : ℕ → List ℕ → ℤ
units_of places text = signed (starts_with_minus text) (size_of places (without_leading_sign text))

-- how many digits a text has after its point
abbrev pub places_of : List ℕ → ℕ
places_of text = length (after_first is_point text)
