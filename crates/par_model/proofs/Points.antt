-- Where the point of digits is, and what they write without it.
use Rattle.std.proofs.Common.{◌≡◌, ◌∙◌, ◌<◌, ◌≤◌, ◌+◌, ◌-◌, ◌^◌, ◌++◌, ◌∷◌, [], ℕ, Bool, true, false, List, Option, Some, None, length, refl, sym, subst, ap, arith, inl, inr, append-nil}
use Rattle.std.proofs.lemmas.Bool.{cases_Bool}
use Rattle.std.proofs.lemmas.Bool.Decides.{nat_tests}
use Rattle.std.proofs.lemmas.List.{drop_all, take_all}
use Rattle.std.proofs.lemmas.List.Folds.{length-prefix_len, list_all-append}
use Rattle.std.specs.Char.{is_ascii_digit}
use Rattle.std.specs.List.{after_first, before_first, list_all, list_any, position_or_len}
use Rattle.std.specs.Prelude.{◌&&◌, if◌then◌else◌, nat_le, nat_lt, not, replicate}
use Rattle.std.specs.Str.Parse.{digits_value, digits_value_after}
use Rattle.par_model.specs.Magnitude.{has_places, magnitude_of}
use Rattle.par_model.specs.Number.{is_numeral, is_point, scaled}
use Rattle.par_model.proofs.Runs.{after-append, after-ge}

pub digit-no-point : (c : ℕ) → is_ascii_digit c ≡ true → is_point c ≡ false
digit-no-point c e = grind (arith, nat_tests, e)

-- digits have no point
pub no-point : (ds : List ℕ) → list_all is_ascii_digit ds ≡ true → (position_or_len is_point ds ≡ length ds) × (list_any is_point ds ≡ false)
no-point [] all = (refl, refl)
no-point (d ∷ ds) all = elim (cases_Bool (is_ascii_digit d)) [
  | inl is ↦
      let rest : list_all is_ascii_digit ds ≡ true = rw is at all in
      let more = no-point ds rest in
      let other = digit-no-point d is in
      (rw other (omega (arith, more.0)), rw (other, more.1) refl)
  | inr none ↦ absurd (cc (all, none))
]

-- whether there is a point
pub any-point : (ds : List ℕ) → list_any is_point ds ≡ nat_lt (position_or_len is_point ds) (length ds)
any-point [] = refl
any-point (d ∷ ds) = elim (cases_Bool (is_point d)) [
  | inl is ↦ rw is (grind (arith, nat_tests))
  | inr other ↦
      let more = any-point ds in
      rw other (grind (arith, nat_tests, more))
]

pub before-size : (ds : List ℕ) → length (before_first is_point ds) ≡ position_or_len is_point ds
before-size ds = length-prefix_len (λ b. not (is_point b)) ds

-- the places of digits without a point, and with one
pub no-point-places : (places : ℕ) (ds : List ℕ) → length (before_first is_point ds) ≡ length ds → has_places places ds ≡ nat_lt 0 (length ds)
no-point-places places ds same =
    let size = before-size ds in
    let none : list_any is_point ds ≡ false = any-point ds ∙ grind (arith, nat_tests, size, same) in
    rw none refl

pub point-places : (places : ℕ) (ds : List ℕ) → length (before_first is_point ds) < length ds
    → has_places places ds ≡ (nat_lt 0 (length (after_first is_point ds)) && nat_le (length (after_first is_point ds)) places)
point-places places ds less =
    let size = before-size ds in
    let some : list_any is_point ds ≡ true = any-point ds ∙ grind (arith, nat_tests, size, less) in
    rw some refl

-- digits with no point are themselves
pub scaled-plain : (ds : List ℕ) → list_all is_ascii_digit ds ≡ true → scaled 0 ds ≡ ds
scaled-plain ds all =
    let at = (no-point ds all).0 in
    rw (at, take_all (length ds) ds (omega arith), drop_all (length ds + 1) ds (omega arith)) (append-nil ds)

-- one or more digits are a numeral without places
pub plain : (ds : List ℕ) → 0 < length ds → list_all is_ascii_digit ds ≡ true → is_numeral 0 ds ≡ true
plain ds some all =
    let none = (no-point ds all).1 in
    let is : nat_lt 0 (length ds) ≡ true = grind (arith, nat_tests, some) in
    rw (scaled-plain ds all, all, none) is

-- what the parts of digits write, one after the other
pub value-parts : (places : ℕ) (ds : List ℕ) → digits_value 10 (scaled places ds)
    ≡ digits_value_after 10 (digits_value_after 10 (digits_value_after 10 0 (before_first is_point ds)) (after_first is_point ds)) (replicate (places - length (after_first is_point ds)) 48)
value-parts places ds =
    after-append 0 (before_first is_point ds) (after_first is_point ds ++ replicate (places - length (after_first is_point ds)) 48)
    ∙ after-append (digits_value_after 10 0 (before_first is_point ds)) (after_first is_point ds) (replicate (places - length (after_first is_point ds)) 48)

pub all-parts : (ds : List ℕ) → list_all is_ascii_digit (scaled 0 ds) ≡ (list_all is_ascii_digit (before_first is_point ds) && list_all is_ascii_digit (after_first is_point ds))
all-parts ds =
    let none : 0 - length (after_first is_point ds) ≡ 0 = omega arith in
    ap (λ k. list_all is_ascii_digit (before_first is_point ds ++ (after_first is_point ds ++ replicate k 48))) none
    ∙ list_all-append is_ascii_digit (before_first is_point ds) (after_first is_point ds ++ [])
    ∙ ap (λ l. list_all is_ascii_digit (before_first is_point ds) && list_all is_ascii_digit l) (append-nil (after_first is_point ds))

-- a magnitude, as its parts are read one after the other
read_parts : (w d h fa fb fc : Bool) (c : ℕ) → (fc ≡ true → fb ≡ true) → (fb ≡ true → fa ≡ true)
    → (if ((w && d) && h) && fc then Some c else None) ≡ (if h then (if w && fa then (if d && fb then (if fc then Some c else None) else None) else None) else None)
read_parts true true true true true fc c cb ba = refl
read_parts true true true true false true c cb ba = cc (cb refl)
read_parts true true true true false false c cb ba = refl
read_parts true true true false true fc c cb ba = cc (ba refl)
read_parts true true true false false true c cb ba = cc (cb refl)
read_parts true true true false false false c cb ba = refl
read_parts true true false fa fb fc c cb ba = refl
read_parts true false true true fb fc c cb ba = refl
read_parts true false true false fb fc c cb ba = refl
read_parts true false false fa fb fc c cb ba = refl
read_parts false d true fa fb fc c cb ba = refl
read_parts false d false fa fb fc c cb ba = refl

pub magnitude-parts : (places : ℕ) (ds : List ℕ) (a b c : ℕ) → a ≡ digits_value_after 10 0 (before_first is_point ds) → b ≡ digits_value_after 10 a (after_first is_point ds)
    → c ≡ digits_value_after 10 b (replicate (places - length (after_first is_point ds)) 48)
    → magnitude_of places ds ≡ (if has_places places ds then (if list_all is_ascii_digit (before_first is_point ds) && nat_le a (2 ^ 63)
    then (if list_all is_ascii_digit (after_first is_point ds) && nat_le b (2 ^ 63) then (if nat_le c (2 ^ 63) then Some c else None) else None) else None) else None)
magnitude-parts places ds a b c is-a is-b is-c =
    let whole = before_first is_point ds in
    let decimals = after_first is_point ds in
    let value : digits_value 10 (scaled places ds) ≡ c = value-parts places ds ∙ cc (is-a, is-b, is-c) in
    let up : a ≤ b = rw is-b (after-ge a decimals) in
    let up' : b ≤ c = rw is-c (after-ge b (replicate (places - length decimals) 48)) in
    rw (value, all-parts ds) (read_parts (list_all is_ascii_digit whole) (list_all is_ascii_digit decimals) (has_places places ds) (nat_le a (2 ^ 63)) (nat_le b (2 ^ 63)) (nat_le c (2 ^ 63)) c
    (λ e. grind (arith, nat_tests, up', e)) (λ e. grind (arith, nat_tests, up, e)))

-- ---- the three readings of a magnitude, where one of them gives nothing, or all give a number

pub seen : (b : Bool) (n m : ℕ) → (if b then Some n else None) ≡ Some m → (b ≡ true) × (n ≡ m)
seen true n m e = (refl, cc)
seen false n m e = cc

seen-none : (b : Bool) (n : ℕ) → (if b then Some n else None) ≡ None → b ≡ false
seen-none true n e = cc
seen-none false n e = refl

-- what digits write after a number, if they are digits and it is at most 2 ^ 63
abbrev pub read-after : ℕ → List ℕ → Option ℕ
read-after n ds = if list_all is_ascii_digit ds && nat_le (digits_value_after 10 n ds) (2 ^ 63) then Some (digits_value_after 10 n ds) else None

module _ (places : ℕ) (ds : List ℕ) (has : has_places places ds ≡ true) where
  pub front-none : read-after 0 (before_first is_point ds) ≡ None → magnitude_of places ds ≡ None
  front-none none =
      let off = seen-none _ _ none in
      magnitude-parts places ds _ _ _ refl refl refl ∙ rw (has, off) refl

  pub all-none : (a : ℕ) → read-after 0 (before_first is_point ds) ≡ Some a → read-after a (after_first is_point ds) ≡ None → magnitude_of places ds ≡ None
  all-none a front none =
      let on = seen _ _ a front in
      let none' = subst (λ n. read-after n (after_first is_point ds) ≡ None) (sym on.1) none in
      let off = seen-none _ _ none' in
      magnitude-parts places ds _ _ _ refl refl refl ∙ rw (has, on.0, off) refl

  pub all-some : (a b : ℕ) → read-after 0 (before_first is_point ds) ≡ Some a → read-after a (after_first is_point ds) ≡ Some b
      → magnitude_of places ds ≡ (if nat_le (digits_value_after 10 b (replicate (places - length (after_first is_point ds)) 48)) (2 ^ 63)
      then Some (digits_value_after 10 b (replicate (places - length (after_first is_point ds)) 48)) else None)
  all-some a b front all =
      let on = seen _ _ a front in
      let all' = subst (λ n. read-after n (after_first is_point ds) ≡ Some b) (sym on.1) all in
      let on' = seen _ _ b all' in
      magnitude-parts places ds _ _ _ refl refl refl ∙ rw (has, on.0, on'.0, on'.1) refl
