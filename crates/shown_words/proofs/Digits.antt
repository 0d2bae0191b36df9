-- The number that up to eighteen digits write.
use Rattle.std.proofs.Common.{◌≡◌, ◌<◌, ◌≤◌, ◌+◌, ◌-◌, ◌*◌, ◌^◌, ◌∙◌, ℕ, List, ap, arith, get_or, length, suc, take, true}
use Rattle.std.proofs.Math.Nat.{pow-le-pow_right, pow-suc}
use Rattle.std.proofs.lemmas.Bool.Decides.{nat_tests}
use Rattle.std.proofs.lemmas.Int.Digits.{digits_value_more}
use Rattle.std.proofs.lemmas.List.Folds.{list_all_more}
use Rattle.std.specs.Char.{digit_value, is_ascii_digit}
use Rattle.std.specs.List.{list_all}
use Rattle.std.specs.Prelude.{◌&&◌}
use Rattle.std.specs.Str.Parse.{digits_value}

pub record IsDigit (c : ℕ) : Type 0 where
  pub low : 48 ≤ c
  pub high : c ≤ 57
  pub value : digit_value c ≡ c - 48

pub digit-from : (c : ℕ) → is_ascii_digit c ≡ true → IsDigit c
digit-from c h =
    let low : 48 ≤ c = grind (arith, nat_tests) in
    let high : c ≤ 57 = grind (arith, nat_tests) in
    record { low = low; high = high; value = grind (arith, nat_tests) }

-- what at most seventeen digits write leaves room for one more
pub room : (value i : ℕ) → value < 10 ^ i → i < 18 → value < 10 ^ 17
room value i small few =
    let le : i ≤ 17 = omega (arith, few) in
    let some : 0 < 10 = omega arith in
    let most : 10 ^ i ≤ 10 ^ 17 = pow-le-pow_right {n = 10} some {i = i} {j = 17} le in
    omega (arith, small, most)

pub value-more : (digits : List ℕ) (i value unit : ℕ) → i < length digits → is_ascii_digit (get_or digits i 0) ≡ true → unit ≡ get_or digits i 0 - 48 → value ≡ digits_value 10 (take i digits) → value * 10 + unit ≡ digits_value 10 (take (i + 1) digits)
value-more digits i value unit lt digit unit_is is =
    let d = digit-from (get_or digits i 0) digit in
    let more = digits_value_more 10 digits i lt in
    omega (arith, more, unit_is, is, d.value)

pub digits-more : (digits : List ℕ) (i : ℕ) → i < length digits → is_ascii_digit (get_or digits i 0) ≡ true → list_all is_ascii_digit (take i digits) ≡ true → list_all is_ascii_digit (take (i + 1) digits) ≡ true
digits-more digits i lt digit so_far = list_all_more is_ascii_digit digits i 0 lt ∙ (λ k. so_far k && digit k)

pub small-more : (c i value unit : ℕ) → is_ascii_digit c ≡ true → unit ≡ c - 48 → value < 10 ^ i → value * 10 + unit < 10 ^ (i + 1)
small-more c i value unit digit unit_is small =
    let d = digit-from c digit in
    let next : i + 1 ≡ suc i = omega arith in
    let power : 10 ^ (i + 1) ≡ 10 ^ i * 10 = ap (λ n. 10 ^ n) next ∙ pow-suc 10 i in
    omega (arith, power, small, unit_is, d.high)
