-- When digits are no number between two bounds.
use Rattle.std.proofs.Common.{◌≡◌, ◌<◌, ◌≤◌, ◌+◌, ◌-◌, ◌*◌, ℕ, Bool, true, false, List, Some, None, length, take, get_or, nat_le, nat_lt, refl, arith}
use Rattle.std.proofs.lemmas.Bool.Decides.{nat_tests}
use Rattle.std.proofs.lemmas.Int.Digits.{digits_value_more}
use Rattle.std.proofs.lemmas.List.Folds.{list_all_at, list_all_more}
use Rattle.std.proofs.lemmas.Str.Parse.{digits_value-take-le}
use Rattle.std.specs.Char.{digit_value, is_ascii_digit}
use Rattle.std.specs.List.{list_all}
use Rattle.std.specs.Prelude.{◌&&◌, if◌then◌else◌}
use Rattle.std.specs.Str.Parse.{digits_value}
use Rattle.shell_lines.specs.Words.{number_in}

fails-digits : (a b c : Bool) (n : ℕ) → b ≡ false → (if a && (b && c) then Some n else None) ≡ None
fails-digits true b c n e = rw e refl
fails-digits false b c n e = refl

fails-most : (a b c d : Bool) (n : ℕ) → d ≡ false → (if a && (b && (c && d)) then Some n else None) ≡ None
fails-most true true true d n e = rw e refl
fails-most true true false d n e = refl
fails-most true false c d n e = refl
fails-most false b c d n e = refl

-- a byte that is no digit
pub none-at-other : (least most : ℕ) (word : List ℕ) (i : ℕ) → i < length word → is_ascii_digit (get_or word i 0) ≡ false → number_in least most word ≡ None
none-at-other least most word i lt e = fails-digits _ _ _ _ (list_all_at is_ascii_digit word i 0 lt e)

-- digits whose front is too large
pub none-at-large : (least most : ℕ) (word : List ℕ) (i value : ℕ) → i < length word → value ≡ digits_value 10 (take i word) → most < value → number_in least most word ≡ None
none-at-large least most word i value lt sofar large =
    let up = digits_value-take-le 10 word i (omega arith) in
    let over : most < digits_value 10 word = omega (arith, up, sofar, large) in
    fails-most (nat_lt 0 (length word) && nat_le (length word) 20) (list_all is_ascii_digit word) (nat_le least (digits_value 10 word)) (nat_le (digits_value 10 word) most) _ (grind (arith, nat_tests, over))

-- one more digit
pub one-more : (word : List ℕ) (i value unit : ℕ) → i < length word → is_ascii_digit (get_or word i 0) ≡ true → unit ≡ get_or word i 0 - 48
    → list_all is_ascii_digit (take i word) ≡ true → value ≡ digits_value 10 (take i word)
    → (list_all is_ascii_digit (take (i + 1) word) ≡ true) × (value * 10 + unit ≡ digits_value 10 (take (i + 1) word))
one-more word i value unit lt is at all sofar =
    let digit : get_or word i 0 - 48 ≡ digit_value (get_or word i 0) = grind (arith, nat_tests, is) in
    (rw (list_all_more is_ascii_digit word i 0 lt, all, is) refl, omega (arith, digits_value_more 10 word i lt, at, sofar, digit))
