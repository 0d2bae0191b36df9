-- The record of a number: its text, that it is not refused, and its integer.
use Rattle.std.proofs.Common.{◌≡◌, ◌∙◌, ◌<◌, ◌≤◌, ◌/◌, ◌%◌, ◌^◌, ◌++◌, ◌∷◌, [], ◌≤ℤ◌, neg_ℤ, ℕ, ℤ, pos, negsuc, suc, true, false, List, Some, None, FitsSigned, of_z, to_z, w64, length, append_assoc, refl, sym, ap, arith}
use Rattle.std.proofs.lemmas.Bool.{ne_eqb}
use Rattle.std.proofs.lemmas.Bool.Decides.{nat_tests}
use Rattle.std.proofs.lemmas.Fmt.{decimal_is_IsNumeral, length-decimal-le}
use Rattle.std.proofs.lemmas.Int.{ints, to_z-of_z}
use Rattle.std.proofs.lemmas.Str.Parse.{digit_from_value}
use Rattle.std.specs.Char.{is_ascii_digit}
use Rattle.std.specs.Fmt.{signed_decimal}
use Rattle.std.specs.List.{list_all, list_any}
use Rattle.std.specs.Prelude.{◌==◌, ⊤, decimal, nat_lt}
use Rattle.std.specs.Str.Parse.{AllDigits, digits_value, starts_with_minus}
use Rattle.csv.specs.Writing.{default_writer, fields_text, is_blank, needs_byte, row_text}
use Rattle.par_model.proofs.ShortNumbers.{short-integer}
use Rattle.par_model.specs.Number.{integer_of}
use Rattle.par_model.specs.Key.{encoded, key_of}
use Rattle.par_model.specs.Keep.{is_kept}
use Rattle.par_model.specs.Magnitude.{short_magnitude_of, with_sign}
use Rattle.par_model.specs.Refuse.{refusal}
use Rattle.partial_agg.proofs.Keys.{encoded-one, length-encoded_field}
use Rattle.gen_query.specs.Generator.{name_of, record_of, value_of}
use Rattle.gen_query.specs.Plan.{bound_gen}

-- ---- bytes that call for no quotes

abbrev pub AllPlain : List ℕ → Type 0
AllPlain [] = ⊤
AllPlain (c ∷ cs) = (45 ≤ c) × AllPlain cs

plain_byte : (c : ℕ) → 45 ≤ c → needs_byte default_writer c ≡ false
plain_byte c h = rw (ne_eqb c 44 (λ e. omega (arith, e)), ne_eqb c 34 (λ e. omega (arith, e)), ne_eqb c 13 (λ e. omega (arith, e)), ne_eqb c 10 (λ e. omega (arith, e))) refl

plain : (field : List ℕ) → AllPlain field → list_any (needs_byte default_writer) field ≡ false
plain [] h = refl
plain (c ∷ cs) h = rw (plain_byte c h.0) (plain cs h.1)

plain_digits : (ds : List ℕ) → AllDigits 10 ds → AllPlain ds
plain_digits [] h = tt
plain_digits (c ∷ cs) h = let r = digit_from_value c h.0 in (omega (arith, r), plain_digits cs h.1)

plain_value : (v : ℤ) → neg_ℤ (pos 1000) ≤ℤ v → v ≤ℤ pos 1000 → AllPlain (signed_decimal v)
plain_value (pos n) low high = plain_digits (decimal n) (decimal_is_IsNumeral n (omega (arith, ints, high))).0.1
plain_value (negsuc n) low high = (omega arith, plain_digits (decimal (suc n)) (decimal_is_IsNumeral (suc n) (omega (arith, ints, low))).0.1)

row_plain : (a b : List ℕ) → AllPlain a → AllPlain b → row_text default_writer (a ∷ b ∷ []) ≡ a ++ (44 ∷ (b ++ 10 ∷ []))
unfolding is_blank fields_text
row_plain a b p q =
    rw (plain a p, plain b q) (append_assoc a (44 ∷ (b ++ [])) (10 ∷ []) ∙ ap (λ (t : List ℕ). a ++ 44 ∷ t) (append_assoc b [] (10 ∷ [])))

-- ---- the value and the name of a number

below_1000 : (x : ℕ) → x % 1000 < 1000
below_1000 x = omega arith

pub value_low : (x : ℕ) → neg_ℤ (pos 1000) ≤ℤ value_of x
value_low x = let h : x / 2 ^ 32 % 2001 < 2001 = omega arith in omega (arith, ints, h)

pub value_high : (x : ℕ) → value_of x ≤ℤ pos 1000
value_high x = let h : x / 2 ^ 32 % 2001 < 2001 = omega arith in omega (arith, ints, h)

-- as the 64 bits of a signed number too
fits64 : (z : ℤ) → neg_ℤ (pos 1000) ≤ℤ z → z ≤ℤ pos 1000 → FitsSigned w64 z
fits64 (pos n) low high = record { sfits = omega (arith, ints, high) }
fits64 (negsuc n) low high = record { sfits = omega (arith, ints, low) }

pub value_kept : (x : ℕ) → to_z w64 (of_z w64 (value_of x)) ≡ value_of x
value_kept x = to_z-of_z w64 (value_of x) (fits64 (value_of x) (value_low x) (value_high x))

name_plain : (x : ℕ) → AllPlain (name_of x)
name_plain x = (omega arith, plain_digits (decimal (x % 1000)) (decimal_is_IsNumeral (x % 1000) (omega (arith, below_1000 x))).0.1)

pub name_short : (x : ℕ) → length (name_of x) ≤ 4
name_short x = omega (arith, length-decimal-le 3 (x % 1000) (omega arith) (below_1000 x) (omega (arith, below_1000 x)))

pub row_is : (x : ℕ) → row_text default_writer (record_of x) ≡ name_of x ++ (44 ∷ (signed_decimal (value_of x) ++ 10 ∷ []))
unfolding record_of
row_is x = row_plain (name_of x) (signed_decimal (value_of x)) (name_plain x) (plain_value (value_of x) (value_low x) (value_high x))

-- ---- the integer that a value is read as

all_digits : (ds : List ℕ) → AllDigits 10 ds → list_all is_ascii_digit ds ≡ true
all_digits [] h = refl
all_digits (c ∷ cs) h =
    let r = digit_from_value c h.0 in
    let is : is_ascii_digit c ≡ true = grind (arith, nat_tests, r) in
    rw is (all_digits cs h.1)

short_is : (ds : List ℕ) (n : ℕ) → 0 < length ds → length ds ≤ 18 → AllDigits 10 ds → digits_value 10 ds ≡ n → short_magnitude_of ds ≡ Some n
short_is ds n some few all is =
    let digits = all_digits ds all in
    grind (arith, nat_tests, some, few, digits, is)

digits_read : (ds : List ℕ) (n : ℕ) → 0 < length ds → length ds ≤ 18 → AllDigits 10 ds → digits_value 10 ds ≡ n → n < 2 ^ 63 → integer_of ds ≡ Some (pos n)
digits_read [] n some few all is lt = absurd (omega arith)
digits_read (c ∷ cs) n some few all is lt =
    let r = digit_from_value c all.0 in
    let minus : (c == 45) ≡ false = ne_eqb c 45 (λ e. omega (arith, r, e)) in
    let plus : (c == 43) ≡ false = ne_eqb c 43 (λ e. omega (arith, r, e)) in
    let fits : nat_lt n (2 ^ 63) ≡ true = grind (arith, nat_tests, lt) in
    let signed : with_sign (starts_with_minus (c ∷ cs)) (Some n) ≡ Some (pos n) = rw (minus, fits) refl in
    sym (short-integer (c ∷ cs) n (rw (minus, plus) (short_is (c ∷ cs) n some few all is))) ∙ signed

pub value_reads : (v : ℤ) → neg_ℤ (pos 1000) ≤ℤ v → v ≤ℤ pos 1000 → integer_of (signed_decimal v) ≡ Some v
value_reads (pos n) low high =
    let is = decimal_is_IsNumeral n (omega (arith, ints, high)) in
    let few = length-decimal-le 4 n (omega arith) (omega (arith, ints, high)) (omega (arith, ints, high)) in
    digits_read (decimal n) n is.0.0 (omega (arith, few)) is.0.1 is.1 (omega (arith, ints, high))
value_reads (negsuc n) low high =
    let is = decimal_is_IsNumeral (suc n) (omega (arith, ints, low)) in
    let few = length-decimal-le 4 (suc n) (omega arith) (omega (arith, ints, low)) (omega (arith, ints, low)) in
    sym (short-integer (signed_decimal (negsuc n)) (suc n) (short_is (decimal (suc n)) (suc n) is.0.0 (omega (arith, few)) is.0.1 is.1))

value_some : (v : ℤ) → neg_ℤ (pos 1000) ≤ℤ v → v ≤ℤ pos 1000 → (length (signed_decimal v) == 0) ≡ false
value_some (pos n) low high =
    let is = decimal_is_IsNumeral n (omega (arith, ints, high)) in
    ne_eqb (length (decimal n)) 0 (λ e. omega (arith, e, is.0.0))
value_some (negsuc n) low high = ne_eqb (suc (length (decimal (suc n)))) 0 (λ e. omega (arith, e))

pub is_read : (x : ℕ) → integer_of (signed_decimal (value_of x)) ≡ Some (value_of x)
is_read x = value_reads (value_of x) (value_low x) (value_high x)

pub not_null : (x : ℕ) → (length (signed_decimal (value_of x)) == 0) ≡ false
not_null x = value_some (value_of x) (value_low x) (value_high x)

-- ---- the key, and that the row is not refused

pub key_is : (x : ℕ) → key_of bound_gen (record_of x) ≡ encoded (name_of x ∷ [])
unfolding record_of
key_is x = refl

key_short : (x : ℕ) → length (encoded (name_of x ∷ [])) ≤ 8
key_short x = omega (arith, name_short x, ap (length {A = ℕ}) (encoded-one (name_of x)), length-encoded_field (name_of x))

pub accepted : (x : ℕ) → refusal bound_gen 2 (record_of x) ≡ None
unfolding refusal is_kept record_of
accepted x =
    let fits : nat_lt 248 (length (encoded (name_of x ∷ []))) ≡ false = grind (arith, nat_tests, key_short x) in
    rw (fits, is_read x, not_null x) refl
