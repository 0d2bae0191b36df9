-- Numbers of JSON (RFC 8259, section 6) without an exponent.
use Rattle.std.specs.Prelude.{◌==◌, ◌||◌, ◌&&◌, ℕ, Bool, not, List, drop, if◌then◌else◌, length, slice_index}
use Rattle.std.specs.Char.{is_ascii_digit}
use Rattle.std.specs.List.{after_first, before_first, list_all, list_any}
use Rattle.par_model.specs.Number.{is_point}

-- one or more digits
abbrev pub are_digits : List ℕ → Bool
are_digits bytes = not (length bytes == 0) && list_all is_ascii_digit bytes

-- digits without a zero before others
abbrev pub is_whole : List ℕ → Bool
is_whole bytes = are_digits bytes && ((length bytes == 1) || not (slice_index bytes 0 == 48))

-- a text without its minus sign, if it has one
abbrev pub without_minus : List ℕ → List ℕ
without_minus text = if slice_index text 0 == 45 then drop 1 text else text

-- digits, and if there is a point digits after it
abbrev pub is_unsigned : List ℕ → Bool
is_unsigned size = if list_any is_point size then is_whole (before_first is_point size) && are_digits (after_first is_point size) else is_whole size

-- a minus sign or none, digits, and if there is a point digits after it
abbrev pub is_json_number : List ℕ → Bool
is_json_number text = is_unsigned (without_minus text)
