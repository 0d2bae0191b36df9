-- The table of look-ups, read once by computing, and the rule at each of its entries.
use Rattle.std.proofs.Common.{◌≡◌, ℕ, zero, suc, ◌+◌, ◌-◌, ◌*◌, ◌/◌, ◌%◌, ◌<◌, ◌≤◌, Bool, true, ◌&&◌, leb, ltb, List, [], ◌∷◌, length, get_or, refl, subst, arith, ⊎_elim}
use Rattle.std.proofs.lemmas.Bool.{cases_lt}
use Rattle.std.proofs.lemmas.Bool.Decides.{nat_tests}
use Rattle.size_classes.specs.Classes.{sizes, IsClass, IsLeast, class_size}
use Rattle.size_classes.specs.declared.TheConstants.{CLASSES}
use Rattle.size_classes.proofs.Sizes.{both, grows, before_words}

-- n words fit an object of the class, and not one of the class before
is_right : ℕ → ℕ → Bool
is_right n class = (leb 2 class && leb class 37) && (leb (8 * n) (get_or sizes (class - 2) 0) && ltb (get_or (0 ∷ sizes) (class - 2) 0) (8 * n))

are_right : ℕ → List ℕ → Bool
are_right n [] = true
are_right n (x ∷ xs) = is_right n x && are_right (suc n) xs

record IsRight (n class : ℕ) : Type 0 where
  class_is : IsClass class
  holds : 8 * n ≤ class_size class
  above : get_or (0 ∷ sizes) (class - 2) 0 < 8 * n

right : (n class x y : ℕ) → ((leb 2 class && leb class 37) && (leb (8 * n) x && ltb y (8 * n))) ≡ true → IsClass class × (8 * n ≤ x) × (y < 8 * n)
right n class x y e =
    let a = both (leb 2 class && leb class 37) (leb (8 * n) x && ltb y (8 * n)) e in
    let b = both (leb 2 class) (leb class 37) a.0 in
    let c = both (leb (8 * n) x) (ltb y (8 * n)) a.1 in
    let p = b.0 in
    let q = b.1 in
    let r = c.0 in
    let s = c.1 in
    (record { low = grind (arith, nat_tests); high = grind (arith, nat_tests) }, grind (arith, nat_tests), grind (arith, nat_tests))

right_is : (n class : ℕ) → is_right n class ≡ true → IsRight n class
unfolding is_right
right_is n class e =
    let r = right n class (get_or sizes (class - 2) 0) (get_or (0 ∷ sizes) (class - 2) 0) e in
    record { class_is = r.0; holds = r.1; above = r.2 }

right_at : (n : ℕ) (xs : List ℕ) (k : ℕ) → are_right n xs ≡ true → k < length xs → IsRight (n + k) (get_or xs k 0)
unfolding are_right
right_at n [] k e h = absurd (omega arith)
right_at n (x ∷ xs) zero e h = let z : n ≡ n + 0 = omega arith in subst (λ (m : ℕ). IsRight m x) z (right_is n x (both (is_right n x) (are_right (suc n) xs) e).0)
right_at n (x ∷ xs) (suc k) e h = let z : suc n + k ≡ n + suc k = omega arith in subst (λ (m : ℕ). IsRight m (get_or xs k 0)) z (right_at (suc n) xs k (both (is_right n x) (are_right (suc n) xs) e).1 (omega arith))

-- the rule at each entry of the table: the test of the whole table computes
entry_at : (k : ℕ) → k < 1024 → IsRight (1 + k) (get_or CLASSES k 0)
unfolding are_right is_right
entry_at k h = right_at 1 CLASSES k refl h

-- a class that holds the words of a request, where the one before does not, is the least
least_is : (bytes class : ℕ) → IsRight (1 + (bytes - 1) / 8) class → 1 ≤ bytes → IsLeast bytes class
least_is bytes class r some = record {
  is_class = r.class_is;
  holds = fits (class_size class) r.holds;
  least = λ other c h. ⊎_elim
      (λ (l : other < class). absurd (short (get_or sizes (other - 2) 0) (get_or (0 ∷ sizes) (class - 2) 0) h (grows (class - 2) (other - 2) (omega (arith, c.low)) (omega (arith, r.class_is.high))) r.above (before_words (class - 2) (omega (arith, r.class_is.high)))))
      (λ (m : class ≤ other). m)
      (cases_lt other class);
}
  where
    fits : (x : ℕ) → 8 * (1 + (bytes - 1) / 8) ≤ x → bytes ≤ x
    fits x h = omega arith

    short : (x y : ℕ) → bytes ≤ x → x ≤ y → y < 8 * (1 + (bytes - 1) / 8) → y % 8 ≡ 0 → ⊥
    short x y a b c d = omega arith

pub looks_up : (bytes : ℕ) → 1 ≤ bytes → bytes ≤ 8192 → IsLeast bytes (get_or CLASSES ((bytes - 1) / 8) 0)
looks_up bytes some few = least_is bytes (get_or CLASSES ((bytes - 1) / 8) 0) (entry_at ((bytes - 1) / 8) (omega arith)) some

-- a request has one least class
pub least_same : (bytes class other : ℕ) → IsLeast bytes class → IsLeast bytes other → class ≡ other
least_same bytes class other a b = let p = a.least other b.is_class b.holds in let q = b.least class a.is_class a.holds in omega arith
