-- Fields whose quotes are there twice compare as the fields themselves: they have the same order of bytes, and a number has no
-- quote.
use Rattle.std.proofs.Common.{◌≡◌, ◌-◌, ◌∙◌, ◌∷◌, ◌++◌, [], Bool, ℕ, List, true, false, ap, arith, drop, length, refl, suc, sym, true≢false, zero}
use Rattle.std.specs.Prelude.{◌==◌, ◌&&◌, ◌||◌, cond, nat_lt, slice_index}
use Rattle.std.proofs.lemmas.Bool.{eqb-true, ne_eqb}
use Rattle.std.proofs.lemmas.Bool.Decides.{nat_tests}
use Rattle.std.proofs.lemmas.List.{drop_all, take-append-drop}
use Rattle.std.proofs.lemmas.List.Folds.{list_any-append}
use Rattle.std.specs.Char.{is_ascii_digit}
use Rattle.std.specs.List.{list_all, list_any}
use Rattle.std.specs.Ordering.{int_cmp, nat_cmp, ordering_then}
use Rattle.std.specs.Str.Parse.{without_leading_sign}
use Rattle.std.specs.declared.cmp.Ordering.{Ordering}
use Rattle.std.specs.declared.cmp.Ordering.TheVariants.{Equal, Greater, Less}
use Rattle.csv.proofs.WriteFacts.{escaped-none}
use Rattle.csv.specs.Writing.{default_writer, escaped}
use Rattle.table_order.specs.Numbers.{is_number, is_numeral, is_tail, tail_of, tail_size, whole_of}
use Rattle.table_order.specs.Order.{bytes_cmp, class_of, fields_cmp, number_of, other_of}
use Rattle.table_order.specs.declared.order.By.{By}
use Rattle.table_order.specs.declared.order.By.TheVariants as by
use Rattle.table_order.proofs.Values.{AreDigits, and-both, digits-cons, same-from}

-- ---- the order of bytes

abbrev twice : List ℕ → List ℕ
twice = escaped default_writer

pub twice-quote : (b : ℕ) (rest : List ℕ) → (b == 34) ≡ true → twice (b ∷ rest) ≡ b ∷ b ∷ twice rest
unfolding escaped
twice-quote b rest is = rw is (ap (λ c. c ∷ b ∷ twice rest) (sym (eqb-true b 34 is)))

pub twice-other : (b : ℕ) (rest : List ℕ) → (b == 34) ≡ false → twice (b ∷ rest) ≡ b ∷ twice rest
unfolding escaped
twice-other b rest is = rw is refl

twice-none : twice [] ≡ []
unfolding escaped
twice-none = refl

then-strict : (o p q : Ordering) → (o ≡ Equal → ⊥) → ordering_then o p ≡ ordering_then o q
then-strict Less p q strict = refl
then-strict Equal p q strict = absurd (strict refl)
then-strict Greater p q strict = refl

equal-self : (x y : ℕ) → x ≡ y → nat_cmp x y ≡ Equal
equal-self x y is = grind (arith, nat_tests)

unlike : (x y : ℕ) → (x == 34) ≡ true → (y == 34) ≡ false → nat_cmp x y ≡ Equal → ⊥
unlike x y is isnt tie = let same = same-from x y (nat_cmp x y) refl tie in true≢false (sym is ∙ ap (λ b. b == 34) same ∙ isnt)

unlike-back : (x y : ℕ) → (x == 34) ≡ false → (y == 34) ≡ true → nat_cmp x y ≡ Equal → ⊥
unlike-back x y isnt is tie = let same = same-from x y (nat_cmp x y) refl tie in true≢false (sym is ∙ ap (λ b. b == 34) (sym same) ∙ isnt)

less-front : (y : ℕ) (b : List ℕ) (p : Bool) → (y == 34) ≡ p → bytes_cmp [] (twice (y ∷ b)) ≡ Less
less-front y b true is = ap (bytes_cmp []) (twice-quote y b is)
less-front y b false is = ap (bytes_cmp []) (twice-other y b is)

greater-front : (x : ℕ) (a : List ℕ) (p : Bool) → (x == 34) ≡ p → bytes_cmp (twice (x ∷ a)) [] ≡ Greater
greater-front x a true is = ap (λ t. bytes_cmp t []) (twice-quote x a is)
greater-front x a false is = ap (λ t. bytes_cmp t []) (twice-other x a is)

both-fronts : (x y : ℕ) (a b : List ℕ) (p q : Bool) → (x == 34) ≡ p → (y == 34) ≡ q → bytes_cmp (twice a) (twice b) ≡ bytes_cmp a b → bytes_cmp (twice (x ∷ a)) (twice (y ∷ b)) ≡ ordering_then (nat_cmp x y) (bytes_cmp a b)
both-fronts x y a b true true is_x is_y h =
    let tie : nat_cmp x y ≡ Equal = equal-self x y (eqb-true x 34 is_x ∙ sym (eqb-true y 34 is_y)) in
    rw (twice-quote x a is_x, twice-quote y b is_y, tie) h
both-fronts x y a b true false is_x is_y h = rw (twice-quote x a is_x, twice-other y b is_y) (then-strict (nat_cmp x y) _ _ (unlike x y is_x is_y))
both-fronts x y a b false true is_x is_y h = rw (twice-other x a is_x, twice-quote y b is_y) (then-strict (nat_cmp x y) _ _ (unlike-back x y is_x is_y))
both-fronts x y a b false false is_x is_y h = rw (twice-other x a is_x, twice-other y b is_y) (ap (ordering_then (nat_cmp x y)) h)

pub cmp-twice : (a b : List ℕ) → bytes_cmp (twice a) (twice b) ≡ bytes_cmp a b
cmp-twice [] [] = rw twice-none refl
cmp-twice [] (y ∷ b) = rw twice-none (less-front y b (y == 34) refl)
cmp-twice (x ∷ a) [] = rw twice-none (greater-front x a (x == 34) refl)
cmp-twice (x ∷ a) (y ∷ b) = both-fronts x y a b (x == 34) (y == 34) refl refl (cmp-twice a b)

-- ---- a number has no quote

abbrev is_quote : ℕ → Bool
is_quote b = b == 34

abbrev Plain : List ℕ → Type 0
Plain xs = list_any is_quote xs ≡ false

plain-cons : (x : ℕ) (xs : List ℕ) → (x == 34) ≡ false → Plain xs → Plain (x ∷ xs)
plain-cons x xs h k = rw h k

plain-append : (xs ys : List ℕ) → Plain xs → Plain ys → Plain (xs ++ ys)
plain-append xs ys h k = list_any-append is_quote xs ys ∙ rw h k

plain-digits : (xs : List ℕ) → AreDigits xs → Plain xs
plain-digits [] h = refl
plain-digits (x ∷ xs) h =
    let d = digits-cons x xs h in
    plain-cons x xs (ne_eqb x 34 (λ e. omega (arith, e, d.0.low))) (plain-digits xs d.1)

plain-tail : (places : ℕ) (tail : List ℕ) → ((slice_index tail 0 == 46) && list_all is_ascii_digit (drop 1 tail)) ≡ true → Plain tail
plain-tail places [] h = refl
plain-tail places (x ∷ tail) h =
    let both = and-both (x == 46) (list_all is_ascii_digit tail) h in
    plain-cons x tail (ne_eqb x 34 (λ e. omega (arith, e, eqb-true x 46 both.0))) (plain-digits tail both.1)

no-tail : (digits : List ℕ) → tail_of 0 digits ≡ []
no-tail digits = drop_all (length digits - 0) digits (omega arith)

second-of : (p q : Bool) → p ≡ false → (p || q) ≡ true → q ≡ true
second-of true q is h = absurd (true≢false is)
second-of false q is h = h

plain-tails : (places : ℕ) (digits : List ℕ) → is_tail places (tail_of places digits) ≡ true → Plain (tail_of places digits)
plain-tails zero digits h = ap (list_any is_quote) (no-tail digits)
plain-tails (suc places) digits h = plain-tail (suc places) (tail_of (suc places) digits) (second-of (suc places == 0) _ (ne_eqb (suc places) 0 (λ e. omega (arith, e))) h)

plain-numeral : (places : ℕ) (digits : List ℕ) → is_numeral places digits ≡ true → Plain digits
plain-numeral places digits h =
    let first = and-both (nat_lt 0 (length (whole_of places digits))) _ h in
    let both = and-both (list_all is_ascii_digit (whole_of places digits)) _ first.1 in
    sym (ap (list_any is_quote) (take-append-drop (length digits - tail_size places) digits))
    ∙ plain-append (whole_of places digits) (tail_of places digits) (plain-digits (whole_of places digits) both.0) (plain-tails places digits both.1)

plain-sign : (x : ℕ) (rest : List ℕ) (minus plus : Bool) → (x == 45) ≡ minus → (x == 43) ≡ plus → Plain (cond minus rest (drop (cond plus 1 0) (x ∷ rest))) → Plain (x ∷ rest)
plain-sign x rest true plus is_minus is_plus h = plain-cons x rest (ne_eqb x 34 (λ e. omega (arith, e, eqb-true x 45 is_minus))) h
plain-sign x rest false true is_minus is_plus h = plain-cons x rest (ne_eqb x 34 (λ e. omega (arith, e, eqb-true x 43 is_plus))) h
plain-sign x rest false false is_minus is_plus h = h

plain-number : (places : ℕ) (text : List ℕ) → is_number places text ≡ true → Plain text
plain-number places [] h = refl
plain-number places (x ∷ rest) h = plain-sign x rest (x == 45) (x == 43) refl refl (plain-numeral places (without_leading_sign (x ∷ rest)) h)

number-same : (places : ℕ) (text : List ℕ) → is_number places text ≡ true → twice text ≡ text
number-same places text h = escaped-none default_writer text (plain-number places text h)

-- ---- quotes that are there twice stay quotes

back-by : (x : ℕ) (rest : List ℕ) (p : Bool) → (x == 34) ≡ p → (Plain (twice rest) → Plain rest) → Plain (twice (x ∷ rest)) → Plain (x ∷ rest)
back-by x rest true is more h = absurd (true≢false (sym (ap (λ b. b || (b || list_any is_quote (twice rest))) is) ∙ sym (ap (list_any is_quote) (twice-quote x rest is)) ∙ h))
back-by x rest false is more h = plain-cons x rest is (more (sym (ap (λ b. b || list_any is_quote (twice rest)) is) ∙ sym (ap (list_any is_quote) (twice-other x rest is)) ∙ h))

plain-back : (text : List ℕ) → Plain (twice text) → Plain text
plain-back [] h = refl
plain-back (x ∷ rest) h = back-by x rest (x == 34) refl (plain-back rest) h

number-by : (places : ℕ) (text : List ℕ) (p q : Bool) → is_number places text ≡ p → is_number places (twice text) ≡ q → is_number places (twice text) ≡ is_number places text
number-by places text true q is is_twice = ap (is_number places) (number-same places text is)
number-by places text false false is is_twice = is_twice ∙ sym is
number-by places text false true is is_twice = ap (is_number places) (escaped-none default_writer text (plain-back text (plain-number places (twice text) is_twice)))

number-twice : (places : ℕ) (text : List ℕ) → is_number places (twice text) ≡ is_number places text
number-twice places text = number-by places text (is_number places text) (is_number places (twice text)) refl refl

-- ---- the order of fields

empty-by : (x : ℕ) (rest : List ℕ) (p : Bool) → (x == 34) ≡ p → (length (twice (x ∷ rest)) == 0) ≡ false
empty-by x rest true is = ap (λ t. length t == 0) (twice-quote x rest is) ∙ ne_eqb (suc (suc (length (twice rest)))) 0 (λ e. omega (arith, e))
empty-by x rest false is = ap (λ t. length t == 0) (twice-other x rest is) ∙ ne_eqb (suc (length (twice rest))) 0 (λ e. omega (arith, e))

pub empty-twice : (text : List ℕ) → (length (twice text) == 0) ≡ (length text == 0)
empty-twice [] = ap (λ t. length t == 0) twice-none
empty-twice (x ∷ rest) = empty-by x rest (x == 34) refl ∙ sym (ne_eqb (suc (length rest)) 0 (λ e. omega (arith, e)))

class-twice : (places : ℕ) (text : List ℕ) → class_of places (twice text) ≡ class_of places text
class-twice places text = rw (number-twice places text, empty-twice text) refl

value-by : (places : ℕ) (text : List ℕ) (p : Bool) → is_number places text ≡ p → number_of places (twice text) ≡ number_of places text
value-by places text true is = ap (number_of places) (number-same places text is)
value-by places text false is = rw (number-twice places text, is) refl

other-by : (places : ℕ) (text : List ℕ) (p : Bool) → is_number places text ≡ p → other_of places (twice text) ≡ twice (other_of places text)
other-by places text true is = rw (number-twice places text, is) (sym twice-none)
other-by places text false is = rw (number-twice places text, is) refl

others-twice : (places : ℕ) (a b : List ℕ) → bytes_cmp (other_of places (twice a)) (other_of places (twice b)) ≡ bytes_cmp (other_of places a) (other_of places b)
others-twice places a b =
    ap (λ t. bytes_cmp t (other_of places (twice b))) (other-by places a (is_number places a) refl) ∙ ap (bytes_cmp (twice (other_of places a))) (other-by places b (is_number places b) refl)
    ∙ cmp-twice (other_of places a) (other_of places b)

values-twice : (places : ℕ) (a b : List ℕ) → int_cmp (number_of places (twice a)) (number_of places (twice b)) ≡ int_cmp (number_of places a) (number_of places b)
values-twice places a b =
    ap (λ n. int_cmp n (number_of places (twice b))) (value-by places a (is_number places a) refl) ∙ ap (int_cmp (number_of places a)) (value-by places b (is_number places b) refl)

classes-twice : (places : ℕ) (a b : List ℕ) → nat_cmp (class_of places (twice a)) (class_of places (twice b)) ≡ nat_cmp (class_of places a) (class_of places b)
classes-twice places a b = ap (λ n. nat_cmp n (class_of places (twice b))) (class-twice places a) ∙ ap (nat_cmp (class_of places a)) (class-twice places b)

three : (o o' p p' q q' : Ordering) → o ≡ o' → p ≡ p' → q ≡ q' → ordering_then o (ordering_then p q) ≡ ordering_then o' (ordering_then p' q')
three o o' p p' q q' a b c = λ i. ordering_then (a i) (ordering_then (b i) (c i))

-- fields whose quotes are there twice compare as the fields
pub fields-twice : (kind : By) (down : Bool) (a b : List ℕ) → fields_cmp kind down (twice a) (twice b) ≡ fields_cmp kind down a b
unfolding fields_cmp
fields-twice by.Bytes true a b = cmp-twice b a
fields-twice by.Bytes false a b = cmp-twice a b
fields-twice (by.Numbers places) true a b = three _ _ _ _ _ _ (classes-twice places a b) (values-twice places b a) (others-twice places b a)
fields-twice (by.Numbers places) false a b = three _ _ _ _ _ _ (classes-twice places a b) (values-twice places a b) (others-twice places a b)
