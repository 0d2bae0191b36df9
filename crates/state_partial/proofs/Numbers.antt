-- Places in a source, in digits.
use Rattle.std.proofs.Common.{inl, inr, ◌≡◌, ◌<◌, ◌≤◌, ◌+◌, ◌-◌, ℕ, suc, Bool, true, false, List, [], ◌∷◌, Some, None, length, take, get_or, nat_lt, refl, arith}
use Rattle.std.proofs.lemmas.Bool.{cases_Bool, eqb-true}
use Rattle.std.proofs.lemmas.Bool.Decides.{nat_tests}
use Rattle.std.proofs.lemmas.List.Folds.{list_all_at}
use Rattle.std.proofs.lemmas.Str.Parse.{digits_value-take-le}
use Rattle.std.proofs.lemmas.Int.Digits.{digits_value_more}
use Rattle.std.specs.Char.{is_ascii_digit}
use Rattle.std.specs.List.{list_all, list_any}
use Rattle.std.specs.Prelude.{◌==◌, ◌&&◌, if◌then◌else◌}
use Rattle.std.specs.Str.Parse.{digits_value}
use Rattle.state_partial.specs.Words.{place_in, span_by, span_in}
use Rattle.state_partial.specs.declared.words.TheConstants.{FULL_PLACE, OPEN_END, PAST_PLACES}

fails_first : (a b c : Bool) (n : ℕ) → b ≡ false → (if a && (b && c) then Some n else None) ≡ None
fails_first true b c n e = rw e refl
fails_first false b c n e = refl

fails_second : (a b c : Bool) (n : ℕ) → c ≡ false → (if a && (b && c) then Some n else None) ≡ None
fails_second true true c n e = rw e refl
fails_second true false c n e = refl
fails_second false b c n e = refl

-- a byte that is no digit
pub none_at_other : (text : List ℕ) (i : ℕ) → i < length text → is_ascii_digit (get_or text i 0) ≡ false → place_in text ≡ None
none_at_other text i lt e = fails_first _ _ _ _ (list_all_at is_ascii_digit text i 0 lt e)

-- digits whose front is too large for one more
pub none_at_more : (text : List ℕ) (i value : ℕ) → i < length text → value ≡ digits_value 10 (take i text) → FULL_PLACE ≤ value → place_in text ≡ None
none_at_more text i value lt sofar large =
    let more = digits_value_more 10 text i lt in
    let up = digits_value-take-le 10 text (i + 1) (omega arith) in
    let over : PAST_PLACES ≤ digits_value 10 text = omega (arith, more, up, sofar, large) in
    fails_second (nat_lt 0 (length text)) (list_all is_ascii_digit text) (nat_lt (digits_value 10 text) PAST_PLACES) _ (grind (arith, nat_tests, over))

all_hold : (a b c : Bool) (n : ℕ) → a ≡ true → b ≡ true → c ≡ true → (if a && (b && c) then Some n else None) ≡ Some n
all_hold a b c n e f g = rw (e, f, g) refl

-- digits that are not too large
pub some_place : (text : List ℕ) (value : ℕ) → 0 < length text → list_all is_ascii_digit text ≡ true → value ≡ digits_value 10 text → value < PAST_PLACES → place_in text ≡ Some value
some_place text value some digits is low =
    let below : digits_value 10 text < PAST_PLACES = omega (arith, is, low) in
    rw is (all_hold (nat_lt 0 (length text)) (list_all is_ascii_digit text) (nat_lt (digits_value 10 text) PAST_PLACES) (digits_value 10 text) (grind (arith, nat_tests, some)) digits (grind (arith, nat_tests, below)))

pub digit_low : (byte : ℕ) → is_ascii_digit byte ≡ true → byte - 48 ≤ 9
digit_low byte e = grind (arith, nat_tests, e)

-- a text with no dash
pub none_any : (xs : List ℕ) → ((i : ℕ) → i < length xs → get_or xs i 0 ≡ 45 → ⊥) → list_any (λ byte. byte == 45) xs ≡ false
none_any [] h = refl
none_any (x ∷ xs) h = elim (cases_Bool (x == 45)) [
  | inl e ↦ absurd (h 0 (omega arith) (eqb-true x 45 e))
  | inr e ↦ rw e (none_any xs (λ i lt is. h (suc i) (omega arith) is))
]

pub no_dash : (bytes size : List ℕ) → list_any (λ byte. byte == 45) bytes ≡ false → span_by (place_in bytes) (Some OPEN_END) (place_in size) ≡ span_in bytes size
no_dash bytes size e = rw e refl
