-- The size of a number of 64 signed bits, as digits write it.
use Rattle.std.specs.Prelude.{◌+◌, ◌&&◌, ◌==◌, ◌^◌, ◌++◌, ◌-◌, ℕ, ℤ, pos, neg_ℤ, List, length, Bool, true, false, Option, Some, None, drop, if◌then◌else◌, nat_le, nat_lt, slice_index, take}
use Rattle.std.specs.Char.{is_ascii_digit}
use Rattle.std.specs.List.{after_first, list_all, list_any}
use Rattle.std.specs.Str.Parse.{digits_value}
use Rattle.par_model.specs.Number.{is_numeral, is_point, scaled}

-- whether there is no point and something before it, or a point and one to `places` bytes after it
abbrev pub has_places : ℕ → List ℕ → Bool
has_places places digits = if list_any is_point digits then nat_lt 0 (length (after_first is_point digits)) && nat_le (length (after_first is_point digits)) places else nat_lt 0 (length digits)

-- digits of at most this many places and nothing else, which write a number up to 2 ^ 63
abbrev pub is_magnitude : ℕ → List ℕ → Bool
is_magnitude places digits = is_numeral places digits && nat_le (digits_value 10 (scaled places digits)) (2 ^ 63)

-- the number that digits write in units of 10 ^ -places, if it is at most 2 ^ 63
abbrev pub magnitude_of : ℕ → List ℕ → Option ℕ
magnitude_of places digits = if is_magnitude places digits then Some (digits_value 10 (scaled places digits)) else None

-- the number of 64 signed bits that a magnitude is with a minus sign, and without one
abbrev pub with_sign : Bool → Option ℕ → Option ℤ
with_sign minus None = None
with_sign true (Some size) = Some (neg_ℤ (pos size))
with_sign false (Some size) = if nat_lt size (2 ^ 63) then Some (pos size) else None

-- one to eighteen ASCII digits and nothing else
abbrev pub is_short_magnitude : List ℕ → Bool
is_short_magnitude digits = (nat_lt 0 (length digits) && nat_le (length digits) 18) && list_all is_ascii_digit digits

-- the number that one to eighteen digits write
abbrev pub short_magnitude_of : List ℕ → Option ℕ
short_magnitude_of digits = if is_short_magnitude digits then Some (digits_value 10 digits) else None

-- what eighteen digits at most write that have all their places and nothing else
abbrev pub short_scaled_of : ℕ → List ℕ → Option ℕ
short_scaled_of places digits =
    if nat_le (places + 2) (length digits) && (nat_le (length digits) 19 && (slice_index digits (length digits - 1 - places) == 46))
    then short_magnitude_of (take (length digits - 1 - places) digits ++ drop (length digits - places) digits) else None
