-- The counter after a legal history.
use Rattle.std.proofs.Common.{◌≡◌, ℕ, ◌+◌, ◌*◌, ◌%◌, ◌<◌, ◌≤◌, List, [], ◌∷◌, ◌++◌, map, length, sym, refl, ap, ◌∙◌, subst, arith}
use Rattle.std.specs.Prelude.{Option as Maybe, Some, IsSome}
use mathlib.Core.Option.{some, some-injective}
use lib.ListN.{get_elem?}
use Rattle.lock_book.specs.declared.view.Entry.{Entry}
use Rattle.lock_book.specs.History.{last_of, calls_by, IsLegal}
use Rattle.lock_book.proofs.Uses.{weigh, weigh_parts, length-weigh}
use Rattle.uses_book.specs.Counting.{AddsTo, IsCount, total_of}

pub last_total : (s : ℕ) (xs : List (Entry ℕ ℕ ℕ)) → s < 18446744073709551616 → IsLegal (λ _ s k r t. AddsTo s k r t) s xs → last_of s xs ≡ (s + total_of xs) % 18446744073709551616
last_total s [] low h = omega arith
last_total s (e ∷ es) low h = let a = h.0.1 in let r = last_total e.after es (omega arith) h.1 in omega arith

pub total-append : (xs ys : List (Entry ℕ ℕ ℕ)) → total_of (xs ++ ys) ≡ total_of xs + total_of ys
total-append [] ys = omega arith
total-append (x ∷ xs) ys = let r = total-append xs ys in omega arith

total_weigh : (xs : List (Entry ℕ ℕ ℕ)) → total_of xs ≡ weigh (λ e. e.call) xs
total_weigh [] = refl
total_weigh (x ∷ xs) = let r = total_weigh xs in omega arith

module _ (xs : List (Entry ℕ ℕ ℕ)) (two : (m : ℕ) → 2 ≤ m → calls_by m xs ≡ []) where
  -- what two callers added
  pub total_two : total_of xs ≡ total_of (calls_by 0 xs) + total_of (calls_by 1 xs)
  total_two = let p = weigh_parts (λ (e : Entry ℕ ℕ ℕ). e.call) 2 xs two in omega (arith, total_weigh xs, total_weigh (calls_by 0 xs), total_weigh (calls_by 1 xs))

  pub length_two : length xs ≡ length (calls_by 0 xs) + length (calls_by 1 xs)
  length_two = let p = weigh_parts (λ (_ : Entry ℕ ℕ ℕ). 1) 2 xs two in omega (arith, length-weigh xs, length-weigh (calls_by 0 xs), length-weigh (calls_by 1 xs))

-- the value that the closed shelf gives
pub value_is : (left : ℕ) (opens : List (Unit {0} × ℕ)) (o : Unit {0} × ℕ) (xs : ℕ → List (Entry ℕ ℕ ℕ)) (value times : ℕ) → left ≡ 0 → opens ≡ (tt, 0) ∷ [] → get_elem? opens left ≡ some o → value ≡ last_of o.1 (xs left)
    → IsCount (xs 0) → ((m : ℕ) → 2 ≤ m → calls_by m (xs 0) ≡ []) → total_of (calls_by 0 (xs 0)) ≡ times → total_of (calls_by 1 (xs 0)) ≡ times → value ≡ (2 * times) % 18446744073709551616
value_is left opens o xs value times at is here last h two a b =
    let first : (tt, 0) ≡ o = some-injective (tt, 0) o (sym (ap (λ (z : List (Unit {0} × ℕ) × ℕ). get_elem? z.0 z.1) (λ n. (is n, at n))) ∙ here) in
    let sum : last_of 0 (xs 0) ≡ (0 + total_of (xs 0)) % 18446744073709551616 = last_total 0 (xs 0) (omega arith) h in
    let there : value ≡ last_of 0 (xs 0) = last ∙ ap (λ (z : (Unit {0} × ℕ) × ℕ). last_of z.0.1 (xs z.1)) (λ n. (sym first n, at n)) in
    let parts = total_two (xs 0) two in
    omega arith

pub has_some : (w : Maybe ℕ) (x : ℕ) → w ≡ Some x → IsSome w
has_some w x e = subst (λ (v : Maybe ℕ). IsSome v) (sym e) refl

-- what stands first among what f makes of a list of one
pub first_of : {A B : Type 0} (f : A → B) (opens : List B) (items news : List A) (x : A) (o : B) → opens ≡ map f items → items ≡ news ++ x ∷ [] → news ≡ [] → get_elem? opens 0 ≡ some o → f x ≡ o
first_of {A} {B} f opens items news x o a b c e = some-injective (f x) o (sym (ap (λ (l : List B). get_elem? l 0) (a ∙ ap (map f) (b ∙ ap (λ (l : List A). l ++ x ∷ []) c))) ∙ e)
