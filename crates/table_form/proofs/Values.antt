-- What an aggregate prints is a number of JSON.
use Rattle.std.proofs.Common.{◌≡◌, ◌<◌, ◌≤◌, ◌+◌, ◌*◌, ◌/◌, ◌%◌, ◌^◌, ◌∙◌, ◌∷◌, ◌++◌, [], Bool, ℕ, zero, suc, ℤ, List, true, false, ap, append-nil, arith, decimal, drop, get_or, inl, inr, length, length-append, refl, sym, take, true≢false, unsigned_abs}
use Rattle.std.specs.Prelude.{◌==◌, ◌&&◌, ◌||◌, ◌⊎◌, if◌then◌else◌, not, slice_index}
use Rattle.std.proofs.lemmas.Bool.{cases_Bool, eq-eqb, eqb-true, ne_eqb}
use Rattle.std.proofs.lemmas.Bool.Decides.{nat_tests}
use Rattle.std.proofs.lemmas.Fmt.{decimal_by_steps_wide, decimal_step_wide}
use Rattle.std.proofs.lemmas.List.{get_or_append_left}
use Rattle.std.proofs.lemmas.List.Folds.{list_all-append, list_any-append}
use Rattle.std.proofs.Math.Nat.{div-le_self}
use Rattle.std.specs.Char.{is_ascii_digit}
use Rattle.std.specs.Fmt.{sign_text}
use Rattle.std.specs.Int.{is_negative}
use Rattle.std.specs.List.{after_first, before_first, list_all, list_any, position_or_len}
use Rattle.par_model.specs.Decimal.{average, number_text, places_text, rounded}
use Rattle.par_model.specs.Number.{is_point, signed}
use Rattle.par_model.specs.Table.{or_null, value_text}
use Rattle.par_model.specs.declared.plan.ItemKind.{ItemKind}
use Rattle.par_model.specs.declared.plan.ItemKind.TheVariants as kind
use Rattle.par_model.specs.declared.state.SlotState.{SlotState}
use Rattle.par_model.proofs.Points.{digit-no-point, no-point}
use Rattle.par_model.proofs.Runs.{pow-up}
use Rattle.table_form.specs.Number.{are_digits, is_json_number, is_unsigned, is_whole, without_minus}
use Rattle.table_form.specs.Values.{IsInRange}

-- ---- the digits of a number

-- one or more digits, without a zero before others
pub record IsNumeral (ds : List ℕ) : Type 0 where
  pub some : 0 < length ds
  pub digits : list_all is_ascii_digit ds ≡ true
  pub front : get_or ds 0 0 ≡ 48 → length ds ≡ 1

record IsSpelt (n : ℕ) (ds : List ℕ) : Type 0 where
  numeral : IsNumeral ds
  high : 0 < n → 48 < get_or ds 0 0

digit-is : (x : ℕ) → x < 10 → is_ascii_digit (48 + x) ≡ true
digit-is x small = grind (arith, nat_tests, small)

spelt-one : (n : ℕ) → n < 10 → IsSpelt n ((48 + n) ∷ [])
spelt-one n small =
    let is = digit-is n small in
    record { numeral = record { some = omega arith; digits = rw is refl; front = λ z. refl }; high = λ some. omega (arith, some) }

all-more : (ds : List ℕ) (x : ℕ) → list_all is_ascii_digit ds ≡ true → is_ascii_digit x ≡ true → list_all is_ascii_digit (ds ++ x ∷ []) ≡ true
all-more ds x all is = list_all-append is_ascii_digit ds (x ∷ []) ∙ rw (all, is) refl

spelt-more : (n : ℕ) (ds : List ℕ) → 10 ≤ n → IsSpelt (n / 10) ds → IsSpelt n (ds ++ (48 + n % 10) ∷ [])
spelt-more n ds big h =
    let x = 48 + n % 10 in
    let some = h.numeral.some in
    let low : n % 10 < 10 = omega arith in
    let first : get_or (ds ++ x ∷ []) 0 0 ≡ get_or ds 0 0 = get_or_append_left ds (x ∷ []) 0 0 some in
    let high : 48 < get_or ds 0 0 = h.high (omega (arith, big)) in
    let size = length-append ds (x ∷ []) in
    record {
      numeral = record { some = omega (arith, size); digits = all-more ds x h.numeral.digits (digit-is (n % 10) low); front = λ is. absurd (omega (arith, is, first, high)) };
      high = λ z. omega (arith, first, high);
    }

spelt : (n : ℕ) → n < 10 ^ 64 → IsSpelt n (decimal n)
spelt n small = decimal_by_steps_wide IsSpelt spelt-one (λ m ds big h. spelt-more m ds big h) n small

pub numeral-decimal : (n : ℕ) → n < 10 ^ 64 → IsNumeral (decimal n)
numeral-decimal n small = (spelt n small).numeral

digits-are : (ds : List ℕ) → 0 < length ds → list_all is_ascii_digit ds ≡ true → are_digits ds ≡ true
digits-are ds some all = let full : (length ds == 0) ≡ false = ne_eqb (length ds) 0 (λ e. omega (arith, e, some)) in rw (full, all) refl

or-true : (p : Bool) → (p || true) ≡ true
or-true true = refl
or-true false = refl

whole-front : (ds : List ℕ) → IsNumeral ds → ((length ds == 1) || not (slice_index ds 0 == 48)) ≡ true
whole-front ds h = elim (cases_Bool (slice_index ds 0 == 48)) [
  | inl is ↦ let one : (length ds == 1) ≡ true = eq-eqb (length ds) 1 (h.front (eqb-true (slice_index ds 0) 48 is)) in rw one refl
  | inr other ↦ rw other (or-true (length ds == 1))
]

pub whole-numeral : (ds : List ℕ) → IsNumeral ds → is_whole ds ≡ true
whole-numeral ds h = rw (digits-are ds h.some h.digits) (whole-front ds h)

-- ---- with a point

point-after : (ds tail : List ℕ) → list_all is_ascii_digit ds ≡ true → position_or_len is_point (ds ++ 46 ∷ tail) ≡ length ds
point-after [] tail all = refl
point-after (d ∷ ds) tail all = elim (cases_Bool (is_ascii_digit d)) [
  | inl is ↦
      let rest : list_all is_ascii_digit ds ≡ true = rw is at all in
      let other = digit-no-point d is in
      let more = point-after ds tail rest in
      rw other (omega (arith, more))
  | inr none ↦ absurd (cc (all, none))
]

any-point : (ds tail : List ℕ) → list_any is_point (ds ++ 46 ∷ tail) ≡ true
any-point ds tail = list_any-append is_point ds (46 ∷ tail) ∙ or-true (list_any is_point ds)

take-front : (ds tail : List ℕ) → take (length ds) (ds ++ tail) ≡ ds
take-front [] tail = refl
take-front (d ∷ ds) tail = ap (λ (t : List ℕ). d ∷ t) (take-front ds tail)

drop-front : (ds tail : List ℕ) (x : ℕ) → drop (length ds + 1) (ds ++ x ∷ tail) ≡ tail
drop-front [] tail x = refl
drop-front (d ∷ ds) tail x = let count : suc (length ds) + 1 ≡ suc (length ds + 1) = omega arith in ap (λ (n : ℕ). drop n ((d ∷ ds) ++ x ∷ tail)) count ∙ drop-front ds tail x

pub pointed : (ds tail : List ℕ) → IsNumeral ds → 0 < length tail → list_all is_ascii_digit tail ≡ true → is_unsigned (ds ++ 46 ∷ tail) ≡ true
pointed ds tail h some all =
    let place = point-after ds tail h.digits in
    let before : before_first is_point (ds ++ 46 ∷ tail) ≡ ds = ap (λ (n : ℕ). take n (ds ++ 46 ∷ tail)) place ∙ take-front ds (46 ∷ tail) in
    let after : after_first is_point (ds ++ 46 ∷ tail) ≡ tail = ap (λ (n : ℕ). drop (n + 1) (ds ++ 46 ∷ tail)) place ∙ drop-front ds tail 46 in
    ap (λ (b : Bool). if b then is_whole (before_first is_point (ds ++ 46 ∷ tail)) && are_digits (after_first is_point (ds ++ 46 ∷ tail)) else is_whole (ds ++ 46 ∷ tail)) (any-point ds tail)
    ∙ ap (λ (b : List ℕ). is_whole b && are_digits (after_first is_point (ds ++ 46 ∷ tail))) before ∙ ap (λ (a : List ℕ). is_whole ds && are_digits a) after
    ∙ ap (λ (b : Bool). b && are_digits tail) (whole-numeral ds h) ∙ digits-are tail some all

pub bare : (ds : List ℕ) → IsNumeral ds → is_unsigned ds ≡ true
bare ds h =
    ap (λ (b : Bool). if b then is_whole (before_first is_point ds) && are_digits (after_first is_point ds) else is_whole ds) (no-point ds h.digits).1 ∙ whole-numeral ds h

-- ---- the text of a number

second-digits : (ds : List ℕ) → 1 < length ds → list_all is_ascii_digit ds ≡ true → (0 < length (drop 1 ds)) × (list_all is_ascii_digit (drop 1 ds) ≡ true)
second-digits [] more all = absurd (omega (arith, more))
second-digits (d ∷ ds) more all = (omega (arith, more), second-of (is_ascii_digit d) (list_all is_ascii_digit ds) all)
  where
    second-of : (p q : Bool) → (p && q) ≡ true → q ≡ true
    second-of true q h = h
    second-of false q h = absurd (true≢false (sym h))

two-digits : (n : ℕ) → 10 ≤ n → n < 10 ^ 64 → 1 < length (decimal n)
two-digits n big small =
    let low : n / 10 < 10 ^ 64 = omega (arith, div-le_self n 10, small) in
    let some = (numeral-decimal (n / 10) low).some in
    let size = ap length (decimal_step_wide n big small) ∙ length-append (decimal (n / 10)) ((48 + n % 10) ∷ []) in
    omega (arith, size, some)

unit-big : (more : ℕ) → 10 ≤ 10 ^ suc more
unit-big more = let up = pow-up 1 (suc more) (omega arith) in omega (arith, up)

unit-small : (places : ℕ) → places ≤ 60 → 10 ^ places ≤ 10 ^ 60
unit-small places few = pow-up places 60 few

unsigned-text : (places n : ℕ) → places ≤ 60 → n < 10 ^ 64 → is_unsigned (decimal (n / 10 ^ places) ++ places_text places n) ≡ true
unsigned-text zero n few small =
    let whole : n / 10 ^ 0 ≡ n = omega arith in
    ap is_unsigned (append-nil (decimal (n / 10 ^ 0)) ∙ ap decimal whole) ∙ bare (decimal n) (numeral-decimal n small)
unsigned-text (suc more) n few small =
    let unit = 10 ^ suc more in
    let big = unit-big more in
    let fits : unit ≤ 10 ^ 60 = unit-small (suc more) few in
    let low : n % unit < unit = mod-low n unit (omega (arith, big)) in
    let part_big : 10 ≤ unit + n % unit = omega (arith, big) in
    let part_small : unit + n % unit < 10 ^ 64 = omega (arith, fits, low) in
    let part = second-digits (decimal (unit + n % unit)) (two-digits (unit + n % unit) part_big part_small) (numeral-decimal (unit + n % unit) part_small).digits in
    pointed (decimal (n / unit)) (drop 1 (decimal (unit + n % unit))) (numeral-decimal (n / unit) (div-low n unit small)) part.0 part.1
  where
    mod-low : (a b : ℕ) → 0 < b → a % b < b
    mod-low a b some = omega arith

    div-low : (a b : ℕ) → a < 10 ^ 64 → a / b < 10 ^ 64
    div-low a b small = omega (arith, div-le_self a b, small)

digit-no-minus : (c : ℕ) → is_ascii_digit c ≡ true → (c == 45) ≡ false
digit-no-minus c is = grind (arith, nat_tests, is)

first-digit : (ds tail : List ℕ) → 0 < length ds → list_all is_ascii_digit ds ≡ true → (slice_index (ds ++ tail) 0 == 45) ≡ false
first-digit [] tail some all = absurd (omega (arith, some))
first-digit (d ∷ ds) tail some all = digit-no-minus d (first-of (is_ascii_digit d) (list_all is_ascii_digit ds) all)
  where
    first-of : (p q : Bool) → (p && q) ≡ true → p ≡ true
    first-of true q h = refl
    first-of false q h = absurd (true≢false (sym h))

no-minus : (text : List ℕ) → (slice_index text 0 == 45) ≡ false → without_minus text ≡ text
no-minus text other = ap (λ (b : Bool). if b then drop 1 text else text) other

signed-text : (minus : Bool) (ds tail : List ℕ) → IsNumeral ds → is_unsigned (ds ++ tail) ≡ true → is_json_number (sign_text minus ++ (ds ++ tail)) ≡ true
signed-text true ds tail h is = is
signed-text false ds tail h is = ap is_unsigned (no-minus (ds ++ tail) (first-digit ds tail h.some h.digits)) ∙ is

pub number-is : (places : ℕ) (n : ℤ) → places ≤ 60 → unsigned_abs n < 10 ^ 64 → is_json_number (number_text places n) ≡ true
unfolding number_text
number-is places n few small =
    signed-text (is_negative n) (decimal (unsigned_abs n / 10 ^ places)) (places_text places (unsigned_abs n)) (numeral-decimal (unsigned_abs n / 10 ^ places) (div-low (unsigned_abs n) (10 ^ places) small))
    (unsigned-text places (unsigned_abs n) few small)
  where
    div-low : (a b : ℕ) → a < 10 ^ 64 → a / b < 10 ^ 64
    div-low a b small = omega (arith, div-le_self a b, small)

pub decimal-is : (n : ℕ) → n < 10 ^ 64 → is_json_number (decimal n) ≡ true
decimal-is n small =
    let h = numeral-decimal n small in
    ap is_json_number (sym (append-nil (decimal n))) ∙ signed-text false (decimal n) [] h (ap is_unsigned (append-nil (decimal n)) ∙ bare (decimal n) h)

-- ---- what an aggregate prints

null-or : (count : ℕ) (text : List ℕ) → is_json_number text ≡ true → (or_null count text ≡ []) ⊎ (is_json_number (or_null count text) ≡ true)
null-or count text is = by (count == 0)
  where
    by : (none : Bool) → ((if none then [] else text) ≡ []) ⊎ (is_json_number (if none then [] else text) ≡ true)
    by true = inl refl
    by false = inr is

signed-abs : (minus : Bool) (size : ℕ) → unsigned_abs (signed minus size) ≡ size
signed-abs true zero = refl
signed-abs true (suc size) = refl
signed-abs false size = refl

rounded-low : (size count : ℕ) → size ≤ 10000 * 2 ^ 127 → count < 2 ^ 64 → rounded size count < 10 ^ 64
rounded-low size count low few = omega (arith, div-le_self (2 * size + count) (2 * count), low, few)

average-low : (sum : ℤ) (count : ℕ) → unsigned_abs sum ≤ 2 ^ 127 → count < 2 ^ 64 → unsigned_abs (average sum count) < 10 ^ 64
average-low sum count low few =
    let size : 10000 * unsigned_abs sum ≤ 10000 * 2 ^ 127 = omega (arith, low) in
    let same = signed-abs (is_negative sum) (rounded (10000 * unsigned_abs sum) count) in
    let fits = rounded-low (10000 * unsigned_abs sum) count size few in
    omega (arith, same, fits)

pub values_are_numbers : (k : ItemKind) (places rows : ℕ) (slot : SlotState) → places ≤ 18 → rows < 2 ^ 64 → IsInRange slot → (value_text k places rows slot ≡ []) ⊎ (is_json_number (value_text k places rows slot) ≡ true)
values_are_numbers kind.Rows places rows slot few rows_low h = inr (decimal-is rows (omega (arith, rows_low)))
values_are_numbers kind.Count places rows slot few rows_low h = inr (decimal-is slot.count (omega (arith, h.count)))
values_are_numbers kind.Sum places rows slot few rows_low h = null-or slot.count _ (number-is places slot.sum (omega (arith, few)) (omega (arith, h.sum)))
values_are_numbers kind.Min places rows slot few rows_low h = null-or slot.count _ (number-is places slot.least (omega (arith, few)) (omega (arith, h.least)))
values_are_numbers kind.Max places rows slot few rows_low h = null-or slot.count _ (number-is places slot.greatest (omega (arith, few)) (omega (arith, h.greatest)))
values_are_numbers kind.Avg places rows slot few rows_low h = null-or slot.count _ (number-is (places + 4) (average slot.sum slot.count) (omega (arith, few)) (average-low slot.sum slot.count h.sum h.count))
