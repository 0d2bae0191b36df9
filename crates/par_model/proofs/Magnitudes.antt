-- When digits write no magnitude, and what a sign makes of one.
use Rattle.std.proofs.Common.{◌≡◌, ◌<◌, ◌+◌, ◌-◌, ◌*◌, ◌^◌, ℕ, pos, neg_ℤ, zero, suc, Bool, true, false, List, Some, None, length, take, get_or, nat_le, nat_lt, refl, arith, inl, inr}
use Rattle.std.proofs.lemmas.Bool.{cases_Bool}
use Rattle.std.proofs.lemmas.Bool.Decides.{nat_tests}
use Rattle.std.proofs.lemmas.List.Folds.{list_all_at, list_all_more}
use Rattle.std.specs.Char.{digit_value, is_ascii_digit}
use Rattle.std.specs.List.{list_all}
use Rattle.std.specs.Prelude.{◌&&◌, if◌then◌else◌}
use Rattle.std.specs.Str.Parse.{digits_value, digits_value_after, starts_with_minus, without_leading_sign}
use Rattle.par_model.specs.Magnitude.{magnitude_of, with_sign}
use Rattle.par_model.specs.Number.{fits_64_bits, is_numeral, number_of, scaled}
use Rattle.par_model.proofs.Runs.{after-more, after-take}

none-first : (a b : Bool) (n : ℕ) → a ≡ false → (if a && b then Some n else None) ≡ None
none-first a b n e = rw e refl

none-second : (a b : Bool) (n : ℕ) → b ≡ false → (if a && b then Some n else None) ≡ None
none-second true b n e = rw e refl
none-second false b n e = refl

-- a byte that is no digit
pub none-at-other : (start : ℕ) (digits : List ℕ) (i : ℕ) → i < length digits → is_ascii_digit (get_or digits i 0) ≡ false
    → (if list_all is_ascii_digit digits && nat_le (digits_value_after 10 start digits) (2 ^ 63) then Some (digits_value_after 10 start digits) else None) ≡ None
none-at-other start digits i lt e = none-first _ _ _ (list_all_at is_ascii_digit digits i 0 lt e)

-- digits whose front is too large
none-at-large : (start : ℕ) (digits : List ℕ) (i : ℕ) → 2 ^ 63 < digits_value_after 10 start (take i digits)
    → (if list_all is_ascii_digit digits && nat_le (digits_value_after 10 start digits) (2 ^ 63) then Some (digits_value_after 10 start digits) else None) ≡ None
none-at-large start digits i large =
    let up = after-take start digits i in
    none-second (list_all is_ascii_digit digits) (nat_le (digits_value_after 10 start digits) (2 ^ 63)) _ (grind (arith, nat_tests, up, large))

-- one more digit
pub one-more : (start : ℕ) (digits : List ℕ) (i value unit : ℕ) → i < length digits → is_ascii_digit (get_or digits i 0) ≡ true → unit ≡ get_or digits i 0 - 48
    → list_all is_ascii_digit (take i digits) ≡ true → value ≡ digits_value_after 10 start (take i digits)
    → (list_all is_ascii_digit (take (i + 1) digits) ≡ true) × (value * 10 + unit ≡ digits_value_after 10 start (take (i + 1) digits))
one-more start digits i value unit lt is at all sofar =
    let digit : get_or digits i 0 - 48 ≡ digit_value (get_or digits i 0) = grind (arith, nat_tests, is) in
    (rw (list_all_more is_ascii_digit digits i 0 lt, all, is) refl, omega (arith, after-more start digits i lt, at, sofar, digit))

-- digits whose front is too large for one more
pub none-at-more : (start : ℕ) (digits : List ℕ) (i value : ℕ) → i < length digits → value ≡ digits_value_after 10 start (take i digits) → 922337203685477580 < value
    → (if list_all is_ascii_digit digits && nat_le (digits_value_after 10 start digits) (2 ^ 63) then Some (digits_value_after 10 start digits) else None) ≡ None
none-at-more start digits i value lt sofar large =
    let more = after-more start digits i lt in
    none-at-large start digits (i + 1) (omega (arith, more, sofar, large))

minus-suc : (d : ℕ) → (nat_le d (2 ^ 63 - 1) && true) ≡ nat_le (suc d) (2 ^ 63)
minus-suc d = grind (arith, nat_tests)

minus-fits : (d : ℕ) → fits_64_bits (neg_ℤ (pos d)) ≡ nat_le d (2 ^ 63)
minus-fits zero = refl
minus-fits (suc d) = minus-suc d

plus-fits : (d : ℕ) → fits_64_bits (pos d) ≡ nat_lt d (2 ^ 63)
plus-fits d = grind (arith, nat_tests)

minus-number : (numeral : Bool) (d : ℕ) → with_sign true (if numeral && nat_le d (2 ^ 63) then Some d else None)
    ≡ (if numeral && fits_64_bits (neg_ℤ (pos d)) then Some (neg_ℤ (pos d)) else None)
minus-number numeral d = rw (minus-fits d) (at-fits numeral (nat_le d (2 ^ 63)))
  where
    at-fits : (n f : Bool) → with_sign true (if n && f then Some d else None) ≡ (if n && f then Some (neg_ℤ (pos d)) else None)
    at-fits true true = refl
    at-fits true false = refl
    at-fits false f = refl

below-le : (d : ℕ) → nat_lt d (2 ^ 63) ≡ true → nat_le d (2 ^ 63) ≡ true
below-le d e = grind (arith, nat_tests)

plus-at : (d : ℕ) (n f : Bool) → (nat_lt d (2 ^ 63) ≡ true → f ≡ true)
    → with_sign false (if n && f then Some d else None) ≡ (if n && nat_lt d (2 ^ 63) then Some (pos d) else None)
plus-at d false f h = refl
plus-at d true true h = refl
plus-at d true false h = elim (cases_Bool (nat_lt d (2 ^ 63))) [ inl e ↦ cc (h e) | inr e ↦ rw e refl ]

plus-number : (numeral : Bool) (d : ℕ) → with_sign false (if numeral && nat_le d (2 ^ 63) then Some d else None)
    ≡ (if numeral && fits_64_bits (pos d) then Some (pos d) else None)
plus-number numeral d = rw (plus-fits d) (plus-at d numeral (nat_le d (2 ^ 63)) (below-le d))

-- a number is its magnitude with its sign
pub number-signed : (places : ℕ) (text : List ℕ) → with_sign (starts_with_minus text) (magnitude_of places (without_leading_sign text)) ≡ number_of places text
unfolding number_of
number-signed places text = by (starts_with_minus text)
  where
    digits : List ℕ
    digits = without_leading_sign text

    size : ℕ
    size = digits_value 10 (scaled places digits)

    by : (m : Bool) → with_sign m (magnitude_of places digits)
        ≡ (if is_numeral places digits && fits_64_bits (if m then neg_ℤ (pos size) else pos size) then Some (if m then neg_ℤ (pos size) else pos size) else None)
    by true = minus-number (is_numeral places digits) size
    by false = plus-number (is_numeral places digits) size
