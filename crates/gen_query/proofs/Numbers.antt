-- When digits are no number up to a bound.
use Rattle.std.proofs.Common.{◌≡◌, ◌<◌, ℕ, Bool, true, false, List, Some, None, length, take, get_or, nat_le, nat_lt, refl, arith}
use Rattle.std.proofs.lemmas.Bool.Decides.{nat_tests}
use Rattle.std.proofs.lemmas.List.Folds.{list_all_at}
use Rattle.std.proofs.lemmas.Str.Parse.{digits_value-take-le}
use Rattle.std.specs.Char.{is_ascii_digit}
use Rattle.std.specs.List.{list_all}
use Rattle.std.specs.Prelude.{◌&&◌, if◌then◌else◌}
use Rattle.std.specs.Str.Parse.{digits_value}
use Rattle.gen_query.specs.Words.{number_in}

fails_first : (a b c : Bool) (n : ℕ) → b ≡ false → (if a && (b && c) then Some n else None) ≡ None
fails_first true b c n e = rw e refl
fails_first false b c n e = refl

fails_second : (a b c : Bool) (n : ℕ) → c ≡ false → (if a && (b && c) then Some n else None) ≡ None
fails_second true true c n e = rw e refl
fails_second true false c n e = refl
fails_second false b c n e = refl

-- a byte that is no digit
pub none_at_other : (longest most : ℕ) (text : List ℕ) (i : ℕ) → i < length text → is_ascii_digit (get_or text i 0) ≡ false → number_in longest most text ≡ None
none_at_other longest most text i lt e = fails_first _ _ _ _ (list_all_at is_ascii_digit text i 0 lt e)

-- digits whose front is above the bound
pub none_at_more : (longest most : ℕ) (text : List ℕ) (i value : ℕ) → i < length text → value ≡ digits_value 10 (take i text) → most < value → number_in longest most text ≡ None
none_at_more longest most text i value lt sofar large =
    let up = digits_value-take-le 10 text i (omega arith) in
    let over : most < digits_value 10 text = omega (arith, up, sofar, large) in
    fails_second (nat_lt 0 (length text) && nat_le (length text) longest) (list_all is_ascii_digit text) (nat_le (digits_value 10 text) most) _ (grind (arith, nat_tests, over))
