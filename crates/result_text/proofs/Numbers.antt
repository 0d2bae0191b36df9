-- The text of a number in the pieces that are written.
use Rattle.std.proofs.Common.{◌≡◌, ◌<◌, ◌≤◌, ◌/◌, ◌^◌, ◌++◌, ◌∷◌, append_assoc, append-nil, arith, Bool, decimal, false, nat_lt, ℕ, suc, ℤ, pos, negsuc, List, length, unsigned_abs}
use Rattle.std.proofs.lemmas.Bool.Decides.{nat_tests}
use Rattle.std.proofs.lemmas.Fmt.{decimal_is_IsNumeral_wide}
use Rattle.std.specs.Fmt.{sign_text, signed_decimal}
use Rattle.std.specs.Int.{is_negative}
use Rattle.par_model.specs.Decimal.{number_text, places_text}

-- sign, whole part and places
pub number_pieces : (n : ℤ) (places unit : ℕ) (minus : Bool) (text signed digits whole tail : List ℕ)
    → minus ≡ is_negative n → unit ≡ 10 ^ places → signed ≡ text ++ sign_text minus → digits ≡ decimal (unsigned_abs n / unit) → whole ≡ signed ++ digits
    → tail ≡ whole ++ places_text places (unsigned_abs n) → tail ≡ text ++ number_text places n
unfolding number_text
number_pieces n places unit minus text signed digits whole tail minus_is unit_is signed_is digits_is whole_is tail_is =
    rw (tail_is, whole_is, signed_is, digits_is, minus_is, unit_is) (simp append_assoc)

-- a number without places
pub bare_text : (n : ℤ) → number_text 0 n ≡ signed_decimal n
unfolding number_text
bare_text (pos size) =
    let plus : nat_lt size 0 ≡ false = grind (arith, nat_tests) in
    let whole : size / 10 ^ 0 ≡ size = omega arith in
    rw (whole, plus) (append-nil (decimal size))
bare_text (negsuc size) =
    let whole : suc size / 10 ^ 0 ≡ suc size = omega arith in
    rw whole (append-nil (45 ∷ decimal (suc size)))

-- a number has some digit
pub some_digit : (n : ℕ) → n < 10 ^ 64 → 1 ≤ length (decimal n)
some_digit n within = (decimal_is_IsNumeral_wide n within).0.0
