-- The order of fields: it is an order, it is the same of fields whose quotes are there twice, and ranks follow it.
use Rattle.std.proofs.Common.{◌≡◌, ◌<◌, ◌-◌, ◌^◌, ◌∙◌, [], Bool, ℕ, ℤ, List, true, false, ap, arith, length, refl, sym, true≢false}
use Rattle.std.specs.Prelude.{◌==◌, ◌&&◌, if◌then◌else◌, not}
use Rattle.std.proofs.lemmas.Bool.Decides.{nat_tests}
use Rattle.std.proofs.lemmas.Bool.{eqb-true}
use Rattle.std.proofs.lemmas.Cmp.{back_total, by_ranked, int_cmp_total, nat_cmp_total, nat_list_cmp_total, on_total, ranked, then_total, tied_itself}
use Rattle.std.specs.Cmp.{IsTotalOrder}
use Rattle.std.specs.Ordering.{int_cmp, nat_cmp, on, ordering_reverse, ordering_then}
use Rattle.std.specs.declared.cmp.Ordering.{Ordering}
use Rattle.std.specs.declared.cmp.Ordering.TheVariants.{Equal, Greater, Less}
use Rattle.std.specs.Str.Parse.{starts_with_minus, without_leading_sign}
use Rattle.par_model.specs.Number.{signed}
use Rattle.table_order.specs.Entries.{is_exact, left_of, others_cmp, rank_of, rank_of_size, turned_answer, turned_rank}
use Rattle.table_order.specs.Numbers.{is_number, size_of, units_of}
use Rattle.table_order.specs.Order.{bytes_cmp, class_of, fields_cmp, number_of, numbers_cmp, other_of, turned}
use Rattle.table_order.specs.declared.order.By.{By}
use Rattle.table_order.specs.declared.order.By.TheVariants as by
use Rattle.table_order.proofs.Ranks.{exact-from, last-inexact, ranked-equal, ranked-less, turned-below}

-- ---- it is an order

pub turned-total : {K : Type 0} {R : K → K → Ordering} → (down : Bool) → IsTotalOrder R → IsTotalOrder (turned down R)
turned-total true total = back_total total
turned-total false total = total

pub fields-total : (kind : By) (down : Bool) → IsTotalOrder (fields_cmp kind down)
unfolding fields_cmp
fields-total by.Bytes down = turned-total down nat_list_cmp_total
fields-total (by.Numbers places) down = then_total (on_total (class_of places) nat_cmp_total)
    (then_total (turned-total down (on_total (number_of places) int_cmp_total)) (turned-total down (on_total (other_of places) nat_list_cmp_total)))

-- an answer is turned as its order is
pub answer-turned : {K : Type 0} {R : K → K → Ordering} → (down : Bool) → IsTotalOrder R → (x y : K) → turned_answer down (R x y) ≡ turned down R x y
answer-turned true total x y = sym (total.antisymm y x)
answer-turned false total x y = refl

-- ---- its parts

pub bytes-are : (kind : By) (down : Bool) (a b : List ℕ) (r : Ordering) → kind ≡ by.Bytes → r ≡ turned_answer down (bytes_cmp a b) → r ≡ fields_cmp kind down a b
unfolding fields_cmp
bytes-are kind down a b r is answer = rw is (answer ∙ answer-turned down nat_list_cmp_total a b)

pub numbers-are : (kind : By) (places : ℕ) (down : Bool) (a b : List ℕ) (r : Ordering) → kind ≡ by.Numbers places → r ≡ numbers_cmp places down a b → r ≡ fields_cmp kind down a b
unfolding fields_cmp
numbers-are kind places down a b r is answer = rw is answer

pub others-full : (down : Bool) (a b : List ℕ) (r : Ordering) → (length a == 0) ≡ false → (length b == 0) ≡ false → r ≡ turned_answer down (bytes_cmp a b) → r ≡ others_cmp down a b
others-full down a b r full_a full_b is = is ∙ answer-turned down nat_list_cmp_total a b ∙ sym (rw (full_a, full_b) refl)

turned-self : (down : Bool) → turned down bytes_cmp [] [] ≡ Equal
turned-self true = refl
turned-self false = refl

then-equal : (o p : Ordering) → p ≡ Equal → ordering_then o p ≡ o
then-equal Less p is = refl
then-equal Equal p is = is
then-equal Greater p is = refl

-- two numbers compare by their values
both-numbers : (places : ℕ) (down : Bool) (a b : List ℕ) → is_number places a ≡ true → is_number places b ≡ true → numbers_cmp places down a b ≡ turned down int_cmp (units_of places a) (units_of places b)
both-numbers places true a b is_a is_b = rw (is_a, is_b) (then-equal (int_cmp (units_of places b) (units_of places a)) Equal refl)
both-numbers places false a b is_a is_b = rw (is_a, is_b) (then-equal (int_cmp (units_of places a) (units_of places b)) Equal refl)

number-first : (places : ℕ) (down : Bool) (a b : List ℕ) → is_number places a ≡ true → is_number places b ≡ false → numbers_cmp places down a b ≡ Less
number-first places down a b is_a is_b = rw (is_a, is_b) (by-blank (length b == 0))
  where
    by-blank : (blank : Bool) → ordering_then (nat_cmp 0 (if blank then 2 else 1)) (ordering_then (turned down (on (number_of places) int_cmp) a b) (turned down (on (other_of places) bytes_cmp) a b)) ≡ Less
    by-blank true = refl
    by-blank false = refl

sign-kept : (minus : Bool) (size : ℕ) → signed (minus && not (size == 0)) size ≡ signed minus size
sign-kept true size = by-zero (size == 0) refl
  where
    by-zero : (none : Bool) → (size == 0) ≡ none → signed (not none) size ≡ signed true size
    by-zero true is = rw (eqb-true size 0 is) refl
    by-zero false is = refl
sign-kept false size = refl

-- a number that was read is that of its text
pub units-read : (places : ℕ) (text : List ℕ) (minus : Bool) (size : ℕ) → size ≡ size_of places (without_leading_sign text) → minus ≡ (starts_with_minus text && not (size == 0)) → signed minus size ≡ units_of places text
units-read places text minus size size_is minus_is =
    ap (λ m. signed m size) minus_is ∙ sign-kept (starts_with_minus text) size ∙ ap (signed (starts_with_minus text)) size_is

pub numbers-compare : (places : ℕ) (down : Bool) (a b : List ℕ) (x y : ℤ) (o r : Ordering) → true ≡ is_number places a → true ≡ is_number places b → x ≡ units_of places a → y ≡ units_of places b
    → o ≡ int_cmp x y → r ≡ turned_answer down o → r ≡ numbers_cmp places down a b
numbers-compare places down a b x y o r is_a is_b x_is y_is o_is r_is =
    r_is ∙ ap (turned_answer down) (o_is ∙ ap (λ z. int_cmp z y) x_is ∙ ap (int_cmp (units_of places a)) y_is) ∙ answer-turned down int_cmp_total (units_of places a) (units_of places b) ∙ sym (both-numbers places down a b (sym is_a) (sym is_b))

-- ---- ranks

rank-number : (places : ℕ) (down : Bool) (a : List ℕ) → is_number places a ≡ true → rank_of (by.Numbers places) down a ≡ turned_rank down (rank_of_size (starts_with_minus a) (size_of places (without_leading_sign a)))
rank-number places down a is = rw is refl

rank-other : (places : ℕ) (down : Bool) (a : List ℕ) → is_number places a ≡ false → rank_of (by.Numbers places) down a ≡ 2 ^ 64 - 1
rank-other places down a is = rw is refl

abbrev by_rank : By → Bool → List ℕ → List ℕ → Ordering
by_rank kind down a b = ordering_then (nat_cmp (rank_of kind down a) (rank_of kind down b)) (fields_cmp kind down (left_of (rank_of kind down a) a) (left_of (rank_of kind down b) b))

abbrev decided : Bool → List ℕ → List ℕ → ℕ → ℕ → By → Ordering
decided down a b m n kind = ordering_then (nat_cmp m n) (fields_cmp kind down (left_of m a) (left_of n b))

less-is : (x y : ℕ) → x < y → nat_cmp x y ≡ Less
less-is x y lt = grind (arith, nat_tests)

greater-is : (x y : ℕ) → y < x → nat_cmp x y ≡ Greater
greater-is x y lt = grind (arith, nat_tests)

equal-is : (x y : ℕ) → x ≡ y → nat_cmp x y ≡ Equal
equal-is x y is = grind (arith, nat_tests)

-- if the ranks tie, what is left decides
tied : (kind : By) (down : Bool) (a b : List ℕ) (m n : ℕ) → m ≡ n → (is_exact m ≡ true → fields_cmp kind down a b ≡ Equal) → decided down a b m n kind ≡ fields_cmp kind down a b
tied kind down a b m n is exact = by-exact (is_exact m) refl
  where
    by-exact : (e : Bool) → is_exact m ≡ e → decided down a b m n kind ≡ fields_cmp kind down a b
    by-exact true e = rw (sym is, equal-is m m refl, e) (tied_itself (fields-total kind down) [] ∙ sym (exact e))
    by-exact false e = rw (sym is, equal-is m m refl, e) refl

apart-less : (kind : By) (down : Bool) (a b : List ℕ) (m n : ℕ) → m < n → fields_cmp kind down a b ≡ Less → decided down a b m n kind ≡ fields_cmp kind down a b
apart-less kind down a b m n lt is = rw (less-is m n lt) (sym is)

apart-greater : (kind : By) (down : Bool) (a b : List ℕ) (m n : ℕ) → n < m → fields_cmp kind down a b ≡ Greater → decided down a b m n kind ≡ fields_cmp kind down a b
apart-greater kind down a b m n lt is = rw (greater-is m n lt) (sym is)

-- the greater comes after the less
back : (kind : By) (down : Bool) (a b : List ℕ) → fields_cmp kind down b a ≡ Less → fields_cmp kind down a b ≡ Greater
back kind down a b is = (fields-total kind down).antisymm a b ∙ ap ordering_reverse is

numbers-by : (places : ℕ) (down : Bool) (a b : List ℕ) (p q : Bool) → is_number places a ≡ p → is_number places b ≡ q → by_rank (by.Numbers places) down a b ≡ fields_cmp (by.Numbers places) down a b
unfolding fields_cmp
numbers-by places down a b true true is_a is_b =
    let m = turned_rank down (rank_of_size (starts_with_minus a) (size_of places (without_leading_sign a))) in
    let n = turned_rank down (rank_of_size (starts_with_minus b) (size_of places (without_leading_sign b))) in
    let kind = by.Numbers places in
    rw (rank-number places down a is_a, rank-number places down b is_b)
    (by_ranked (m < n) (m ≡ n) (n < m) (nat_cmp m n) (ranked m n _ refl)
    (λ o lt. apart-less kind down a b m n lt (both-numbers places down a b is_a is_b ∙ ranked-less down _ _ _ _ lt))
    (λ o eq. tied kind down a b m n eq (λ exact. let range = exact-from m exact in both-numbers places down a b is_a is_b ∙ ranked-equal down _ _ _ _ eq range.0 range.1))
    (λ o gt. apart-greater kind down a b m n gt (back kind down a b (both-numbers places down b a is_b is_a ∙ ranked-less down _ _ _ _ gt))))
numbers-by places down a b true false is_a is_b =
    let m = turned_rank down (rank_of_size (starts_with_minus a) (size_of places (without_leading_sign a))) in
    let last = 2 ^ 64 - 1 in
    let kind = by.Numbers places in
    let first = number-first places down a b is_a is_b in
    rw (rank-number places down a is_a, rank-other places down b is_b)
    (by_ranked (m < last) (m ≡ last) (last < m) (nat_cmp m last) (ranked m last _ refl)
    (λ o lt. apart-less kind down a b m last lt first)
    (λ o eq. tied kind down a b m last eq (λ exact. absurd (true≢false (sym exact ∙ ap is_exact eq ∙ last-inexact))))
    (λ o gt. let below = turned-below down (starts_with_minus a) (size_of places (without_leading_sign a)) in let never : ⊥ = omega (arith, below, gt) in absurd never))
numbers-by places down a b false true is_a is_b =
    let n = turned_rank down (rank_of_size (starts_with_minus b) (size_of places (without_leading_sign b))) in
    let last = 2 ^ 64 - 1 in
    let kind = by.Numbers places in
    let first = back kind down a b (number-first places down b a is_b is_a) in
    rw (rank-other places down a is_a, rank-number places down b is_b)
    (by_ranked (last < n) (last ≡ n) (n < last) (nat_cmp last n) (ranked last n _ refl)
    (λ o lt. let below = turned-below down (starts_with_minus b) (size_of places (without_leading_sign b)) in let never : ⊥ = omega (arith, below, lt) in absurd never)
    (λ o eq. tied kind down a b last n eq (λ exact. absurd (true≢false (sym exact ∙ last-inexact))))
    (λ o gt. apart-greater kind down a b last n gt first))
numbers-by places down a b false false is_a is_b =
    rw (rank-other places down a is_a, rank-other places down b is_b) (tied (by.Numbers places) down a b (2 ^ 64 - 1) (2 ^ 64 - 1) refl (λ exact. absurd (true≢false (sym exact ∙ last-inexact))))

-- fields compare as their ranks, and then as what is left of them
pub ranks-follow : (kind : By) (down : Bool) (a b : List ℕ) → by_rank kind down a b ≡ fields_cmp kind down a b
ranks-follow by.Bytes down a b = refl
ranks-follow (by.Numbers places) down a b = numbers-by places down a b (is_number places a) (is_number places b) refl refl
