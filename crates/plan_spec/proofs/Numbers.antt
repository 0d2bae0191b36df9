-- When digits are no number up to a bound.
use Rattle.std.proofs.Common.{◌≡◌, ◌<◌, ◌≤◌, ◌+◌, ℕ, Bool, true, false, List, Some, None, length, take, get_or, nat_le, nat_lt, refl, arith}
use Rattle.std.proofs.lemmas.Bool.Decides.{nat_tests}
use Rattle.std.proofs.lemmas.List.Folds.{list_all_at}
use Rattle.std.proofs.lemmas.Str.Parse.{digits_value-take-le}
use Rattle.std.proofs.lemmas.Int.Digits.{digits_value_more}
use Rattle.std.specs.Char.{is_ascii_digit}
use Rattle.std.specs.List.{list_all}
use Rattle.std.specs.Prelude.{◌&&◌, if◌then◌else◌}
use Rattle.std.specs.Str.Parse.{digits_value}
use Rattle.plan_spec.specs.Grammar.{number_in}
use Rattle.plan_spec.specs.declared.grammar.TheConstants.{MOST_NUMBER}

fails-first : (a b c : Bool) (n : ℕ) → b ≡ false → (if a && (b && c) then Some n else None) ≡ None
fails-first true b c n e = rw e refl
fails-first false b c n e = refl

fails-second : (a b c : Bool) (n : ℕ) → c ≡ false → (if a && (b && c) then Some n else None) ≡ None
fails-second true true c n e = rw e refl
fails-second true false c n e = refl
fails-second false b c n e = refl

-- a byte that is no digit
pub none-at-other : (most : ℕ) (text : List ℕ) (i : ℕ) → i < length text → is_ascii_digit (get_or text i 0) ≡ false → number_in most text ≡ None
none-at-other most text i lt e = fails-first _ _ _ _ (list_all_at is_ascii_digit text i 0 lt e)

-- digits whose front is too large for one more
pub none-at-more : (most : ℕ) (text : List ℕ) (i value : ℕ) → most ≤ MOST_NUMBER → i < length text → value ≡ digits_value 10 (take i text) → 6553 < value → number_in most text ≡ None
none-at-more most text i value small lt sofar large =
    let more = digits_value_more 10 text i lt in
    let up = digits_value-take-le 10 text (i + 1) (omega arith) in
    let over : most < digits_value 10 text = omega (arith, more, up, sofar, large, small) in
    fails-second (nat_lt 0 (length text) && nat_le (length text) 5) (list_all is_ascii_digit text) (nat_le (digits_value 10 text) most) _ (grind (arith, nat_tests, over))
