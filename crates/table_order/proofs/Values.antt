-- How the numbers compare that digits write.
use Rattle.std.proofs.Common.{◌≡◌, ◌<◌, ◌≤◌, ◌+◌, ◌-◌, ◌*◌, ◌∙◌, ◌∷◌, ◌++◌, [], Bool, ℕ, List, true, false, ap, append_assoc, arith, get_or, length, length-append, replicate, refl, suc, sym, true≢false, zero, inl, inr}
use Rattle.std.specs.Prelude.{◌==◌, ◌&&◌, slice_index}
use Rattle.std.proofs.lemmas.Bool.{cases_Bool, eqb-true, eq-eqb, ne_eqb}
use Rattle.std.proofs.lemmas.Cmp.{by_ranked, ranked}
use Rattle.std.proofs.lemmas.Bool.Decides.{nat_tests}
use Rattle.std.specs.Char.{digit_value, is_ascii_digit}
use Rattle.std.specs.Cmp.Lexicographic.{slice_cmp}
use Rattle.std.specs.List.{list_all}
use Rattle.std.specs.Ordering.{is_gt, is_lt, nat_cmp, ordering_then}
use Rattle.std.specs.Str.Parse.{digits_value, digits_value_after}
use Rattle.std.specs.declared.cmp.Ordering.{Ordering}
use Rattle.std.specs.declared.cmp.Ordering.TheVariants.{Equal, Greater, Less}

-- ---- digits

pub record IsDigit (c : ℕ) : Type 0 where
  pub low : 48 ≤ c
  pub high : c ≤ 57
  pub value : digit_value c ≡ c - 48

pub digit-from : (c : ℕ) → is_ascii_digit c ≡ true → IsDigit c
digit-from c h =
    let low : 48 ≤ c = grind (arith, nat_tests) in
    let high : c ≤ 57 = grind (arith, nat_tests) in
    record { low = low; high = high; value = grind (arith, nat_tests) }

pub and-both : (p q : Bool) → (p && q) ≡ true → (p ≡ true) × (q ≡ true)
and-both true q h = (refl, h)
and-both false q h = absurd (true≢false (sym h))

abbrev pub AreDigits : List ℕ → Type 0
AreDigits xs = list_all is_ascii_digit xs ≡ true

pub digits-cons : (c : ℕ) (cs : List ℕ) → AreDigits (c ∷ cs) → IsDigit c × AreDigits cs
digits-cons c cs h = let both = and-both (is_ascii_digit c) (list_all is_ascii_digit cs) h in (digit-from c both.0, both.1)

pub digits-append : (xs ys : List ℕ) → AreDigits (xs ++ ys) → AreDigits xs × AreDigits ys
digits-append [] ys h = (refl, h)
digits-append (x ∷ xs) ys h =
    let both = and-both (is_ascii_digit x) (list_all is_ascii_digit (xs ++ ys)) h in
    let more = digits-append xs ys both.1 in
    (ap (λ b. b && list_all is_ascii_digit xs) both.0 ∙ more.0, more.1)

pub digits-both : (xs ys : List ℕ) → AreDigits xs → AreDigits ys → AreDigits (xs ++ ys)
digits-both [] ys h k = k
digits-both (x ∷ xs) ys h k =
    let both = and-both (is_ascii_digit x) (list_all is_ascii_digit xs) h in
    ap (λ b. b && list_all is_ascii_digit (xs ++ ys)) both.0 ∙ digits-both xs ys both.1 k

abbrev value : ℕ → List ℕ → ℕ
value n xs = digits_value_after 10 n xs

-- ---- as many digits

-- what was less before stays less
pub value-less : (m n : ℕ) (xs ys : List ℕ) → AreDigits xs → AreDigits ys → length xs ≡ length ys → m < n → value m xs < value n ys
value-less m n [] [] dx dy long lt = lt
value-less m n [] (y ∷ ys) dx dy long lt = let never : ⊥ = omega (arith, long) in absurd never
value-less m n (x ∷ xs) [] dx dy long lt = let never : ⊥ = omega (arith, long) in absurd never
value-less m n (x ∷ xs) (y ∷ ys) dx dy long lt =
    let a = digits-cons x xs dx in
    let b = digits-cons y ys dy in
    value-less (m * 10 + digit_value x) (n * 10 + digit_value y) xs ys a.1 b.1 (omega (arith, long)) (omega (arith, a.0.low, a.0.high, a.0.value, lt))

less-cmp : (x y : ℕ) → x < y → nat_cmp x y ≡ Less
less-cmp x y lt = grind (arith, nat_tests)

greater-cmp : (x y : ℕ) → y < x → nat_cmp x y ≡ Greater
greater-cmp x y lt = grind (arith, nat_tests)

equal-cmp : (x : ℕ) → nat_cmp x x ≡ Equal
equal-cmp x = grind (arith, nat_tests)

-- the first digits decide, or the others do
first-decides : (n x y : ℕ) (xs ys : List ℕ) → IsDigit x → IsDigit y → AreDigits xs → AreDigits ys → length xs ≡ length ys → ((m : ℕ) → nat_cmp (value m xs) (value m ys) ≡ slice_cmp nat_cmp xs ys)
    → (o : Ordering) → o ≡ nat_cmp x y → nat_cmp (value n (x ∷ xs)) (value n (y ∷ ys)) ≡ ordering_then (nat_cmp x y) (slice_cmp nat_cmp xs ys)
first-decides n x y xs ys a b dx dy same rest o is =
    let then = λ (r : Ordering). ordering_then r (slice_cmp nat_cmp xs ys) in
    by_ranked (x < y) (x ≡ y) (y < x) o (ranked x y o is)
    (λ o_is lt. less-cmp _ _ (value-less (n * 10 + digit_value x) (n * 10 + digit_value y) xs ys dx dy same (omega (arith, a.low, a.value, b.value, lt))) ∙ ap then (sym o_is ∙ is))
    (λ o_is eq. ap (λ d. nat_cmp (value (n * 10 + digit_value d) xs) (value (n * 10 + digit_value y) ys)) eq ∙ rest (n * 10 + digit_value y) ∙ ap then (sym o_is ∙ is))
    (λ o_is gt. greater-cmp _ _ (value-less (n * 10 + digit_value y) (n * 10 + digit_value x) ys xs dy dx (sym same) (omega (arith, b.low, a.value, b.value, gt))) ∙ ap then (sym o_is ∙ is))

-- as many digits compare as their numbers
pub value-cmp : (n : ℕ) (xs ys : List ℕ) → AreDigits xs → AreDigits ys → length xs ≡ length ys → nat_cmp (value n xs) (value n ys) ≡ slice_cmp nat_cmp xs ys
value-cmp n [] [] dx dy long = equal-cmp n
value-cmp n [] (y ∷ ys) dx dy long = let never : ⊥ = omega (arith, long) in absurd never
value-cmp n (x ∷ xs) [] dx dy long = let never : ⊥ = omega (arith, long) in absurd never
value-cmp n (x ∷ xs) (y ∷ ys) dx dy long =
    let a = digits-cons x xs dx in
    let b = digits-cons y ys dy in
    first-decides n x y xs ys a.0 b.0 a.1 b.1 (omega (arith, long)) (λ m. value-cmp m xs ys a.1 b.1 (omega (arith, long))) (nat_cmp x y) refl

-- ---- more digits

pub value-more : (n : ℕ) (xs ys : List ℕ) → AreDigits xs → AreDigits ys → length xs ≤ length ys → 0 < n → value 0 xs < value n ys
value-more n [] [] dx dy le some = some
value-more n (x ∷ xs) [] dx dy le some = let never : ⊥ = omega (arith, le) in absurd never
value-more n xs (y ∷ ys) dx dy le some = elim (cases_Bool (length xs == length (y ∷ ys))) [
  | inl is ↦ value-less 0 n xs (y ∷ ys) dx dy (eqb-true _ _ is) some
  | inr isnt ↦ value-more (n * 10 + digit_value y) xs ys dx (digits-cons y ys dy).1 (fewer (length xs) (length ys) le isnt) (omega (arith, some))
]
  where
    fewer : (a b : ℕ) → a ≤ suc b → (a == suc b) ≡ false → a ≤ b
    fewer a b h k = grind (arith, nat_tests)

-- more digits, of which the first is no zero, write a greater number
pub value-longer : (xs : List ℕ) (y : ℕ) (ys : List ℕ) → AreDigits xs → AreDigits (y ∷ ys) → length xs ≤ length ys → (y ≡ 48 → ⊥) → digits_value 10 xs < digits_value 10 (y ∷ ys)
value-longer xs y ys dx dy le front =
    let b = digits-cons y ys dy in
    value-more (0 * 10 + digit_value y) xs ys dx b.1 le (omega (arith, b.0.low, b.0.value, front))

-- ---- zeros at the front

pub value-zeros : (zeros : ℕ) (xs : List ℕ) → digits_value 10 (replicate zeros 48 ++ xs) ≡ digits_value 10 xs
value-zeros zero xs = refl
value-zeros (suc zeros) xs = value-zeros zeros xs

-- ---- one digit after others

pub value-push : (n : ℕ) (xs : List ℕ) (c : ℕ) → value n (xs ++ c ∷ []) ≡ value n xs * 10 + digit_value c
value-push n [] c = refl
value-push n (x ∷ xs) c = value-push (n * 10 + digit_value x) xs c

-- ---- two parts

pub then-more : (o p q : Ordering) → ordering_then o (ordering_then p q) ≡ ordering_then (ordering_then o p) q
then-more Less p q = refl
then-more Equal p q = refl
then-more Greater p q = refl

pub cmp-append : (a b c d : List ℕ) → length a ≡ length b → slice_cmp nat_cmp (a ++ c) (b ++ d) ≡ ordering_then (slice_cmp nat_cmp a b) (slice_cmp nat_cmp c d)
cmp-append [] [] c d long = refl
cmp-append [] (y ∷ b) c d long = let never : ⊥ = omega (arith, long) in absurd never
cmp-append (x ∷ a) [] c d long = let never : ⊥ = omega (arith, long) in absurd never
cmp-append (x ∷ a) (y ∷ b) c d long =
    ap (ordering_then (nat_cmp x y)) (cmp-append a b c d (omega (arith, long))) ∙ then-more (nat_cmp x y) (slice_cmp nat_cmp a b) (slice_cmp nat_cmp c d)

-- ---- numbers by their digits before and after the point

pub size-longer : (a b p q : List ℕ) → AreDigits a → AreDigits b → AreDigits p → AreDigits q → length p ≡ length q → (slice_index b 0 ≡ 48 → ⊥) → length a < length b → digits_value 10 (a ++ p) < digits_value 10 (b ++ q)
size-longer a [] p q da db dp dq long front lt = let never : ⊥ = omega (arith, lt) in absurd never
size-longer a (y ∷ b) p q da db dp dq long front lt =
    value-longer (a ++ p) y (b ++ q) (digits-both a p da dp) (digits-both (y ∷ b) q db dq) (omega (arith, length-append a p, length-append b q, long, lt)) front

pub sizes-unequal : (a b p q : List ℕ) (o : Ordering) → AreDigits a → AreDigits b → AreDigits p → AreDigits q → length p ≡ length q → (slice_index a 0 ≡ 48 → ⊥) → (slice_index b 0 ≡ 48 → ⊥)
    → o ≡ nat_cmp (length a) (length b) → (o ≡ Equal → ⊥) → o ≡ nat_cmp (digits_value 10 (a ++ p)) (digits_value 10 (b ++ q))
sizes-unequal a b p q o da db dp dq long front_a front_b is unequal =
    by_ranked (length a < length b) (length a ≡ length b) (length b < length a) o (ranked (length a) (length b) o is)
    (λ o_is lt. o_is ∙ sym (less-cmp _ _ (size-longer a b p q da db dp dq long front_b lt)))
    (λ o_is eq. absurd (unequal o_is))
    (λ o_is gt. o_is ∙ sym (greater-cmp _ _ (size-longer b a q p db da dq dp (sym long) front_a gt)))

pub same-from : (x y : ℕ) (o : Ordering) → o ≡ nat_cmp x y → o ≡ Equal → x ≡ y
same-from x y o is equal =
    by_ranked (x < y) (x ≡ y) (y < x) o (ranked x y o is) (λ o_is lt. absurd (less-apart (sym o_is ∙ equal))) (λ o_is eq. eq) (λ o_is gt. absurd (greater-apart (sym o_is ∙ equal)))
  where
    less-apart : Less ≡ Equal → ⊥
    less-apart h = true≢false (ap is_lt h)

    greater-apart : Greater ≡ Equal → ⊥
    greater-apart h = true≢false (ap is_gt h)

pub sizes-equal : (a b p q : List ℕ) (o : Ordering) → AreDigits a → AreDigits b → AreDigits p → AreDigits q → length p ≡ length q
    → o ≡ nat_cmp (length a) (length b) → o ≡ Equal → nat_cmp (digits_value 10 (a ++ p)) (digits_value 10 (b ++ q)) ≡ ordering_then (slice_cmp nat_cmp a b) (slice_cmp nat_cmp p q)
sizes-equal a b p q o da db dp dq long is equal =
    let same = same-from (length a) (length b) o is equal in
    value-cmp 0 (a ++ p) (b ++ q) (digits-both a p da dp) (digits-both b q db dq) (omega (arith, length-append a p, length-append b q, long, same)) ∙ cmp-append a b p q same

pub then-unequal : (o p q : Ordering) → o ≡ p → (o ≡ Equal → ⊥) → o ≡ ordering_then p q
then-unequal o Less q is unequal = is
then-unequal o Equal q is unequal = absurd (unequal is)
then-unequal o Greater q is unequal = is

-- ---- zero

pub zero-both : (zeros : ℕ) → digits_value 10 (replicate zeros 48) ≡ 0
zero-both zero = refl
zero-both (suc zeros) = zero-both zeros

pub some-size : (whole part : List ℕ) → AreDigits whole → AreDigits part → (slice_index whole 0 ≡ 48 → ⊥) → 0 < length whole → 0 < digits_value 10 (whole ++ part)
some-size [] part dw dp front some = let never : ⊥ = omega (arith, some) in absurd never
some-size (y ∷ whole) part dw dp front some = value-longer [] y (whole ++ part) refl (digits-both (y ∷ whole) part dw dp) (omega arith) front

-- ---- a digit of a list

pub digit-at : (xs : List ℕ) (i : ℕ) → AreDigits xs → i < length xs → IsDigit (get_or xs i 0)
digit-at [] i h lt = let never : ⊥ = omega (arith, lt) in absurd never
digit-at (x ∷ xs) zero h lt = (digits-cons x xs h).0
digit-at (x ∷ xs) (suc i) h lt = digit-at xs i (digits-cons x xs h).1 (omega (arith, lt))

-- digits after others
pub value-append : (n : ℕ) (xs ys : List ℕ) → digits_value_after 10 (digits_value_after 10 n xs) ys ≡ digits_value_after 10 n (xs ++ ys)
value-append n [] ys = refl
value-append n (x ∷ xs) ys = value-append (n * 10 + digit_value x) xs ys

-- digits are zero only if none is before the point, and those after it are zeros
pub zero-some : (whole part : List ℕ) (b : Bool) → AreDigits whole → AreDigits part → (slice_index whole 0 ≡ 48 → ⊥) → b ≡ (length whole == 0) → b ≡ false → b ≡ (digits_value 10 (whole ++ part) == 0)
zero-some [] part b dw dp front is isnt = absurd (true≢false (sym is ∙ isnt))
zero-some (y ∷ whole) part b dw dp front is isnt =
    let some = some-size (y ∷ whole) part dw dp front (omega arith) in
    isnt ∙ sym (ne_eqb (digits_value 10 ((y ∷ whole) ++ part)) 0 (λ z. omega (arith, some, z)))

pub zero-none : (whole part left : List ℕ) (zeros : ℕ) (a b : Bool) → AreDigits part → a ≡ (length whole == 0) → a ≡ true → (slice_index left 0 ≡ 48 → ⊥) → part ≡ replicate zeros 48 ++ left → b ≡ (length left == 0) → b ≡ (digits_value 10 (whole ++ part) == 0)
zero-none [] part [] zeros a b dp a_is none front is b_is =
    let size : digits_value 10 part ≡ 0 = ap (digits_value 10) is ∙ value-zeros zeros [] in
    b_is ∙ sym (eq-eqb (digits_value 10 part) 0 size)
zero-none [] part (y ∷ left) zeros a b dp a_is none front is b_is =
    let digits = (digits-append (replicate zeros 48) (y ∷ left) (ap (list_all is_ascii_digit) (sym is) ∙ dp)).1 in
    let size : digits_value 10 part ≡ digits_value 10 (y ∷ left) = ap (digits_value 10) is ∙ value-zeros zeros (y ∷ left) in
    let some = value-longer [] y left refl digits (omega arith) front in
    let full : (length (y ∷ left) == 0) ≡ false = ne_eqb (suc (length left)) 0 (λ z. omega (arith, z)) in
    b_is ∙ full ∙ sym (ne_eqb (digits_value 10 part) 0 (λ z. omega (arith, some, size, z)))
zero-none (x ∷ whole) part left zeros a b dp a_is none front is b_is =
    let never : suc (length whole) ≡ 0 = eqb-true (suc (length whole)) 0 (sym a_is ∙ none) in
    let no_way : ⊥ = omega (arith, never) in absurd no_way

-- zeros at the front change nothing
pub zeros-front : (whole left part : List ℕ) (zeros : ℕ) → whole ≡ replicate zeros 48 ++ left → digits_value 10 (left ++ part) ≡ digits_value 10 (whole ++ part)
zeros-front whole left part zeros is =
    sym (ap (λ t. digits_value 10 (t ++ part)) is ∙ ap (digits_value 10) (append_assoc (replicate zeros 48) left part) ∙ value-zeros zeros (left ++ part))
