-- What at most eighteen digits write, with a point among them or without one, and that a field of them after at most one
-- sign has no space at its ends.
use Rattle.std.proofs.Common.{rules, ◌≡◌, ◌∙◌, ◌<◌, ◌≤◌, ◌+◌, ◌-◌, ◌%◌, ◌^◌, ℕ, true, false, List, Some, length, take, drop, get_or, refl, sym, ap, arith, inl, inr, Bool, append-nil, length-append}
use Rattle.std.proofs.lemmas.Bool.{cases_Bool}
use Rattle.std.proofs.lemmas.Bool.Decides.{nat_tests}
use Rattle.std.proofs.lemmas.List.{get_or-drop, get_or-take, length-drop, length-take, take_all}
use Rattle.std.proofs.lemmas.List.Folds.{list_all-append, list_all_at}
use Rattle.std.proofs.lemmas.List.Sums.{position_or_len_is, prefix_len-drop_no, suffix_len_is}
use Rattle.std.proofs.lemmas.Str.Parse.{IsNumeralModel, digits_value_short, numerals_by_value}
use Rattle.std.specs.Char.{is_ascii_digit}
use Rattle.std.specs.List.{after_first, before_first, list_all, list_any, position_or_len, prefix_len, suffix_len}
use Rattle.std.specs.Str.Parse.{digits_value, digits_value_after, starts_with_minus, without_leading_sign}
use Rattle.std.specs.Prelude.{◌==◌, ◌&&◌, ◌++◌, None, if◌then◌else◌, nat_le, nat_lt, replicate, slice_index}
use Rattle.par_model.specs.Number.{decimal_of, integer_of, is_point, is_space, scaled, without_spaces}
use Rattle.par_model.specs.Magnitude.{is_short_magnitude, magnitude_of, short_magnitude_of, short_scaled_of, with_sign}
use Rattle.par_model.proofs.Magnitudes.{number-signed}
use Rattle.par_model.proofs.Points.{any-point, digit-no-point, plain, scaled-plain, seen}
use Rattle.par_model.proofs.Runs.{after-append}

digits : IsNumeralModel (λ ds. list_all is_ascii_digit ds ≡ true) (digits_value 10)
digits = numerals_by_value _ (search rules)

-- the front of at most eighteen digits writes a number below 10 ^ 18
pub front-lt : (ds : List ℕ) (i : ℕ) → list_all is_ascii_digit (take i ds) ≡ true → length ds ≤ 18 → digits_value 10 (take i ds) < 10 ^ 18
front-lt ds i all short = digits_value_short digits (take i ds) 18 all (omega (arith, length-take i ds))

digit-no-space : (c : ℕ) → is_ascii_digit c ≡ true → is_space c ≡ false
digit-no-space c e = grind (arith, nat_tests, e)

digit-at : (ds : List ℕ) (i : ℕ) → list_all is_ascii_digit ds ≡ true → i < length ds → is_ascii_digit (get_or ds i 0) ≡ true
digit-at ds i all lt = elim (cases_Bool (is_ascii_digit (get_or ds i 0))) [ inl e ↦ e | inr e ↦ cc (all, list_all_at is_ascii_digit ds i 0 lt e) ]

-- a field whose first and last byte are no spaces
no-spaces : (field : List ℕ) → 0 < length field → is_space (get_or field 0 0) ≡ false → is_space (get_or field (length field - 1) 0) ≡ false
    → without_spaces field ≡ field
no-spaces field some first last =
    let front : prefix_len is_space field ≡ 0 = prefix_len-drop_no is_space field 0 0 some first in
    let past : (k : ℕ) → length field ≤ k → k < length field → is_space (get_or field k 0) ≡ true = λ k le lt. absurd (omega arith) in
    let back : suffix_len is_space field ≡ 0 = omega (arith, suffix_len_is is_space field (length field) 0 (omega arith) past (λ lt. last)) in
    rw (front, back) (take_all (length field - 0 - 0) field (omega arith))

-- digits after at most one byte that is no space
digits-no-spaces : (field : List ℕ) (k : ℕ) → k ≤ 1 → 0 < length (drop k field) → list_all is_ascii_digit (drop k field) ≡ true
    → is_space (get_or field 0 0) ≡ false → without_spaces field ≡ field
digits-no-spaces field k le some all first =
    let sizes = length-drop k field in
    let within : length field - 1 - k < length (drop k field) = omega (arith, sizes, some) in
    let last : is_space (get_or (drop k field) (length field - 1 - k) 0) ≡ false = digit-no-space _ (digit-at (drop k field) (length field - 1 - k) all within) in
    let place : k + (length field - 1 - k) ≡ length field - 1 = omega (arith, sizes, some) in
    let at : get_or (drop k field) (length field - 1 - k) 0 ≡ get_or field (length field - 1) 0 =
    get_or-drop k field (length field - 1 - k) 0 ∙ ap (λ i. get_or field i 0) place in
    no-spaces field (omega (arith, sizes, some)) first (rw at at last)

-- what is known where digits are a short magnitude
record IsShort (ds : List ℕ) (size : ℕ) : Type 0 where
  some : 0 < length ds
  short : length ds ≤ 18
  all : list_all is_ascii_digit ds ≡ true
  value : digits_value 10 ds ≡ size

short-parts : (ds : List ℕ) (size : ℕ) → short_magnitude_of ds ≡ Some size → IsShort ds size
short-parts ds size e = elim (cases_Bool (is_short_magnitude ds)) [
  | inl is ↦ record { some = grind (arith, nat_tests, is); short = grind (arith, nat_tests, is); all = grind (arith, nat_tests, is); value = grind (arith, is, e) }
  | inr other ↦ grind (arith, other, e)
]

-- at most eighteen digits are a magnitude
short-magnitude : (ds : List ℕ) (size : ℕ) → IsShort ds size → magnitude_of 0 ds ≡ Some size
short-magnitude ds size p =
    let below = digits_value_short digits ds 18 p.all p.short in
    let within : nat_le size (2 ^ 63) ≡ true = grind (arith, nat_tests, below, p.value) in
    rw (plain ds p.some p.all, scaled-plain ds p.all, p.value, within) refl

-- a field of digits after at most one sign has no spaces at its ends
signed-no-spaces : (field : List ℕ) → 0 < length (without_leading_sign field) → list_all is_ascii_digit (without_leading_sign field) ≡ true
    → without_spaces field ≡ field
signed-no-spaces field some all = elim (cases_Bool (starts_with_minus field)) [
  | inl minus ↦
      let bare : without_leading_sign field ≡ drop 1 field = rw minus refl in
      digits-no-spaces field 1 (omega arith) (rw bare at some) (rw bare at all) (grind (arith, nat_tests, minus))
  | inr other ↦ elim (cases_Bool (slice_index field 0 == 43)) [
    | inl plus ↦
        let bare : without_leading_sign field ≡ drop 1 field = rw (other, plus) refl in
        digits-no-spaces field 1 (omega arith) (rw bare at some) (rw bare at all) (grind (arith, nat_tests, plus))
    | inr none ↦
        let bare : without_leading_sign field ≡ field = rw (other, none) refl in
        let all' : list_all is_ascii_digit field ≡ true = rw bare at all in
        let some' : 0 < length field = rw bare at some in
        digits-no-spaces field 0 (omega arith) some' all' (digit-no-space _ (digit-at field 0 all' some'))
  ]
]

pub short-integer : (field : List ℕ) (size : ℕ) → short_magnitude_of (without_leading_sign field) ≡ Some size
    → with_sign (starts_with_minus field) (Some size) ≡ integer_of field
short-integer field size e =
    let p = short-parts (without_leading_sign field) size e in
    let bare = signed-no-spaces field p.some p.all in
    rw (bare, sym (short-magnitude _ size p)) (number-signed 0 field)

-- a byte that is at most 9 above `0`, counted round the 64 bits, is a digit
pub digit-unit : (d byte start unit : ℕ) → byte ≡ d → start ≡ 48 → d < 256 → unit ≡ (byte + (18446744073709551616 - start)) % 18446744073709551616 → unit ≤ 9
    → (is_ascii_digit d ≡ true) × (unit ≡ d - 48)
digit-unit d byte start unit same at fits is le =
    let value : unit ≡ d - 48 = omega arith in
    let from : 48 ≤ d = omega arith in
    (grind (arith, nat_tests, value, from, le), value)

-- ---- with all places

-- digits before a point and after it, as they are read one after the other
pub scaled-value : (places : ℕ) (ds : List ℕ) (whole : ℕ) → places + 2 ≤ length ds → length ds ≤ 19 → slice_index ds (length ds - 1 - places) ≡ 46
    → (if list_all is_ascii_digit (take (length ds - 1 - places) ds) then Some (digits_value_after 10 0 (take (length ds - 1 - places) ds)) else None) ≡ Some whole
    → (if list_all is_ascii_digit (drop (length ds - places) ds) then Some (digits_value_after 10 whole (drop (length ds - places) ds)) else None) ≡ short_scaled_of places ds
scaled-value places ds whole long short point front =
    let w = take (length ds - 1 - places) ds in
    let d = drop (length ds - places) ds in
    let on = seen (list_all is_ascii_digit w) (digits_value_after 10 0 w) whole front in
    let test : (nat_le (places + 2) (length ds) && (nat_le (length ds) 19 && (slice_index ds (length ds - 1 - places) == 46))) ≡ true = grind (arith, nat_tests, long, short, point) in
    let sizes = length-append w d in
    let first = length-take (length ds - 1 - places) ds in
    let last = length-drop (length ds - places) ds in
    let size : length (w ++ d) ≡ length ds - 1 = omega (arith, sizes, first, last, long) in
    let fits : (nat_lt 0 (length (w ++ d)) && nat_le (length (w ++ d)) 18) ≡ true = grind (arith, nat_tests, size, long, short) in
    let all : list_all is_ascii_digit (w ++ d) ≡ list_all is_ascii_digit d = list_all-append is_ascii_digit w d ∙ rw on.0 refl in
    let value : digits_value 10 (w ++ d) ≡ digits_value_after 10 whole d = after-append 0 w d ∙ ap (λ n. digits_value_after 10 n d) on.1 in
    rw (test, fits, all, value) refl

-- the decimals as a function's slice has them
pub decimals-slice : (places : ℕ) (ds : List ℕ) → places + 2 ≤ length ds
    → take (length ds - (length ds - 1 - places + 1)) (drop (length ds - 1 - places + 1) ds) ≡ drop (length ds - places) ds
decimals-slice places ds long =
    let at : length ds - 1 - places + 1 ≡ length ds - places = omega (arith, long) in
    rw at (take_all (length ds - (length ds - places)) (drop (length ds - places) ds) (omega (arith, length-drop (length ds - places) ds)))

both : (a b : Bool) → (a && b) ≡ true → (a ≡ true) × (b ≡ true)
both true true e = (refl, refl)
both true false e = cc e
both false b e = cc e

zero-minus : (n : ℕ) → 0 - n ≡ 0
zero-minus n = omega arith

-- what is known where a number has all its places
record IsWhole (places : ℕ) (ds : List ℕ) (size : ℕ) : Type 0 where
  long : places + 2 ≤ length ds
  point : slice_index ds (length ds - 1 - places) ≡ 46
  joined : IsShort (take (length ds - 1 - places) ds ++ drop (length ds - places) ds) size

whole-parts : (places : ℕ) (ds : List ℕ) (size : ℕ) → short_scaled_of places ds ≡ Some size → IsWhole places ds size
whole-parts places ds size e = elim (cases_Bool (nat_le (places + 2) (length ds) && (nat_le (length ds) 19 && (slice_index ds (length ds - 1 - places) == 46)))) [
  | inl is ↦ record {
    long = grind (arith, nat_tests, is);
    point = grind (arith, nat_tests, is);
    joined = short-parts (take (length ds - 1 - places) ds ++ drop (length ds - places) ds) size (rw is at e);
  }
  | inr other ↦ absurd (cc (rw other at e))
]

-- where the point is, in such digits
whole-point : (places : ℕ) (ds : List ℕ) → places + 2 ≤ length ds → slice_index ds (length ds - 1 - places) ≡ 46 → list_all is_ascii_digit (take (length ds - 1 - places) ds) ≡ true
    → position_or_len is_point ds ≡ length ds - 1 - places
whole-point places ds long point all =
    let at = length ds - 1 - places in
    position_or_len_is is_point ds at 0 (omega (arith, long))
    (λ k lt. digit-no-point _ (rw (get_or-take at ds k 0 lt) at (digit-at (take at ds) k all (omega (arith, length-take at ds, lt, long)))))
    (λ lt. grind (arith, nat_tests, point))

-- such digits are a magnitude
whole-magnitude : (places : ℕ) (ds : List ℕ) (size : ℕ) → 0 < places → IsWhole places ds size → magnitude_of places ds ≡ Some size
whole-magnitude places ds size some p =
    let w = take (length ds - 1 - places) ds in
    let d = drop (length ds - places) ds in
    let at : list_all is_ascii_digit w ≡ true = (both (list_all is_ascii_digit w) (list_all is_ascii_digit d) (sym (list_all-append is_ascii_digit w d) ∙ p.joined.all)).0 in
    let here = whole-point places ds p.long p.point at in
    let next : length ds - 1 - places + 1 ≡ length ds - places = omega (arith, p.long) in
    let before : before_first is_point ds ≡ w = ap (λ n. take n ds) here in
    let after : after_first is_point ds ≡ d = ap (λ n. drop (n + 1) ds) here ∙ ap (λ n. drop n ds) next in
    let count : length d ≡ places = omega (arith, length-drop (length ds - places) ds, p.long) in
    let any : list_any is_point ds ≡ true = any-point ds ∙ grind (arith, nat_tests, here, p.long) in
    let none : places - length d ≡ 0 = omega (arith, count) in
    let same : scaled places ds ≡ w ++ d = rw (before, after, none) (ap (λ l. w ++ l) (append-nil d)) in
    let bare : scaled 0 ds ≡ w ++ d = rw (before, after) (ap (λ l. w ++ l) (ap (λ k. d ++ replicate k 48) (zero-minus (length d)) ∙ append-nil d)) in
    let places_fit : (nat_lt 0 (length (after_first is_point ds)) && nat_le (length (after_first is_point ds)) places) ≡ true = rw after (grind (arith, nat_tests, count, some)) in
    let below = digits_value_short digits (w ++ d) 18 p.joined.all p.joined.short in
    let within : nat_le size (2 ^ 63) ≡ true = grind (arith, nat_tests, below, p.joined.value) in
    rw (bare, same, p.joined.all, any, places_fit, p.joined.value, within) refl

-- the first and the last byte of such digits are digits
whole-ends : (places : ℕ) (ds : List ℕ) (size : ℕ) → 0 < places → IsWhole places ds size
    → (is_ascii_digit (get_or ds 0 0) ≡ true) × (is_ascii_digit (get_or ds (length ds - 1) 0) ≡ true)
whole-ends places ds size some p =
    let w = take (length ds - 1 - places) ds in
    let d = drop (length ds - places) ds in
    let digits-of = both (list_all is_ascii_digit w) (list_all is_ascii_digit d) (sym (list_all-append is_ascii_digit w d) ∙ p.joined.all) in
    let first = digit-at w 0 digits-of.0 (omega (arith, length-take (length ds - 1 - places) ds, p.long)) in
    let last = digit-at d (places - 1) digits-of.1 (omega (arith, length-drop (length ds - places) ds, p.long, some)) in
    let front : get_or w 0 0 ≡ get_or ds 0 0 = get_or-take (length ds - 1 - places) ds 0 0 (omega (arith, p.long)) in
    let place : length ds - places + (places - 1) ≡ length ds - 1 = omega (arith, p.long, some) in
    let back : get_or d (places - 1) 0 ≡ get_or ds (length ds - 1) 0 = get_or-drop (length ds - places) ds (places - 1) 0 ∙ ap (λ i. get_or ds i 0) place in
    (ap is_ascii_digit (sym front) ∙ first, ap is_ascii_digit (sym back) ∙ last)

-- a field that begins and ends with a digit after at most one byte that is no space
ends-no-spaces : (field : List ℕ) (k : ℕ) → k ≤ 1 → 0 < length (drop k field) → is_ascii_digit (get_or (drop k field) (length (drop k field) - 1) 0) ≡ true
    → is_space (get_or field 0 0) ≡ false → without_spaces field ≡ field
ends-no-spaces field k le some last first =
    let sizes = length-drop k field in
    let end : is_space (get_or (drop k field) (length (drop k field) - 1) 0) ≡ false = digit-no-space _ last in
    let place : k + (length (drop k field) - 1) ≡ length field - 1 = omega (arith, sizes, some) in
    let at : get_or (drop k field) (length (drop k field) - 1) 0 ≡ get_or field (length field - 1) 0 = get_or-drop k field (length (drop k field) - 1) 0 ∙ ap (λ i. get_or field i 0) place in
    no-spaces field (omega (arith, sizes, some)) first (rw at at end)

signed-ends : (field : List ℕ) → 0 < length (without_leading_sign field) → is_ascii_digit (get_or (without_leading_sign field) 0 0) ≡ true
    → is_ascii_digit (get_or (without_leading_sign field) (length (without_leading_sign field) - 1) 0) ≡ true → without_spaces field ≡ field
signed-ends field some first last = elim (cases_Bool (starts_with_minus field)) [
  | inl minus ↦
      let bare : without_leading_sign field ≡ drop 1 field = rw minus refl in
      ends-no-spaces field 1 (omega arith) (rw bare at some) (rw bare at last) (grind (arith, nat_tests, minus))
  | inr other ↦ elim (cases_Bool (slice_index field 0 == 43)) [
    | inl plus ↦
        let bare : without_leading_sign field ≡ drop 1 field = rw (other, plus) refl in
        ends-no-spaces field 1 (omega arith) (rw bare at some) (rw bare at last) (grind (arith, nat_tests, plus))
    | inr none ↦
        let bare : without_leading_sign field ≡ field = rw (other, none) refl in
        let some' : 0 < length field = rw bare at some in
        let first' : is_ascii_digit (get_or field 0 0) ≡ true = rw bare at first in
        let last' : is_ascii_digit (get_or field (length field - 1) 0) ≡ true = rw bare at last in
        ends-no-spaces field 0 (omega arith) some' last' (digit-no-space _ first')
  ]
]

-- a field of such digits after at most one sign
pub short-decimal : (places : ℕ) (field : List ℕ) (size : ℕ) → 0 < places → short_scaled_of places (without_leading_sign field) ≡ Some size
    → with_sign (starts_with_minus field) (Some size) ≡ decimal_of places field
short-decimal places field size some e =
    let p = whole-parts places (without_leading_sign field) size e in
    let ends = whole-ends places (without_leading_sign field) size some p in
    let bare = signed-ends field (omega (arith, p.long)) ends.0 ends.1 in
    rw (bare, sym (whole-magnitude places _ size some p)) (number-signed places field)
