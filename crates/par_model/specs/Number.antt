-- Which fields are numbers: PostgreSQL's input of a `bigint` or of a `numeric`, in decimal, without an exponent and
-- without underscores. A number with places is held in units of 10 ^ -places.
use Rattle.std.specs.Prelude.{◌-◌, ◌^◌, ◌==◌, ◌&&◌, ◌++◌, ℕ, ℤ, pos, neg_ℤ, negsuc, List, length, replicate, Bool, Option, Some, None, if◌then◌else◌, int_le, nat_le, nat_lt, slice_range}
use Rattle.std.specs.Char.{is_ascii_digit}
use Rattle.std.specs.List.{after_first, before_first, list_all, list_any, prefix_len, suffix_len}
use Rattle.std.specs.Str.Parse.{digits_value, starts_with_minus, without_leading_sign}

-- the space, the only byte that may come before or after a number
abbrev pub is_space : ℕ → Bool
is_space byte = byte == 32

-- the bytes between the spaces at either end
abbrev pub without_spaces : List ℕ → List ℕ
without_spaces bytes = slice_range bytes (prefix_len is_space bytes) (length bytes - suffix_len is_space bytes)

-- the point, after which the decimals come
abbrev pub is_point : ℕ → Bool
is_point byte = byte == 46

-- digits without their point, and with a zero for each decimal that is missing to this many places
abbrev pub scaled : ℕ → List ℕ → List ℕ
scaled places digits = before_first is_point digits ++ (after_first is_point digits ++ replicate (places - length (after_first is_point digits)) 48)

-- one or more ASCII digits, of which, if there is a point, one to `places` come after it
abbrev pub is_numeral : ℕ → List ℕ → Bool
is_numeral places digits = list_all is_ascii_digit (scaled 0 digits) && (if list_any is_point digits
    then nat_lt 0 (length (after_first is_point digits)) && nat_le (length (after_first is_point digits)) places else nat_lt 0 (length digits))

-- a size with a minus sign, or without one
abbrev pub signed : Bool → ℕ → ℤ
signed minus size = if minus then neg_ℤ (pos size) else pos size

-- what a text writes after at most one sign, in units of 10 ^ -places
abbrev pub units_of : ℕ → List ℕ → ℤ
units_of places text = signed (starts_with_minus text) (digits_value 10 (scaled places (without_leading_sign text)))

-- from the least to the greatest number of 64 signed bits
abbrev pub fits_64_bits : ℤ → Bool
fits_64_bits n = int_le (negsuc (2 ^ 63 - 1)) n && int_le n (pos (2 ^ 63 - 1))

-- the number that a text writes, if it writes one, and in 64 signed bits
unfoldable pub number_of : ℕ → List ℕ → Option ℤ
number_of places text = if is_numeral places (without_leading_sign text) && fits_64_bits (units_of places text) then Some (units_of places text) else None

-- the number of a field, if it is one of at most this many places: spaces, an optional sign, digits, spaces
abbrev pub decimal_of : ℕ → List ℕ → Option ℤ
decimal_of places field = number_of places (without_spaces field)

-- the integer of a field, if it is one: a number without places
abbrev pub integer_of : List ℕ → Option ℤ
integer_of field = decimal_of 0 field
