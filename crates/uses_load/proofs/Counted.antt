-- The number that callers have counted who each added 1 as often.
use Rattle.std.proofs.Common.{◌≡◌, ℕ, ◌+◌, ◌*◌, ◌%◌, ◌^◌, ◌<◌, ◌≤◌, zero, suc, List, [], ◌∷◌, length, suc-mul, sym, ap, ◌∙◌, arith}
use mathlib.Core.Option.{some, some-injective}
use lib.ListN.{get_elem?}
use Rattle.lock_book.specs.declared.view.Entry.{Entry}
use Rattle.lock_book.specs.History.{last_of, calls_by, IsLegal}
use Rattle.lock_book.proofs.Uses.{length-weigh, weigh_below, weigh_parts}
use Rattle.uses_load.specs.Counted.{AddsOne, Counts}

last_count : (s : ℕ) (xs : Counts) → s < 2 ^ 64 → IsLegal (λ _ before _ _ after. AddsOne before after) s xs → last_of s xs ≡ (s + length xs) % 2 ^ 64
last_count s [] low h = omega arith
last_count s (e ∷ es) low h = let a = h.0 in let r = last_count e.after es (omega arith) h.1 in omega arith

below : (n calls : ℕ) (xs : Counts) → ((m : ℕ) → m < n → length (calls_by m xs) ≡ calls) → weigh_below (λ (_ : Entry ℕ (Unit {0}) (Unit {0})). 1) n xs ≡ n * calls
below zero calls xs h = omega arith
below (suc n) calls xs h = let r = below n calls xs (λ m lt. h m (omega arith)) in omega (arith, r, h n (omega arith), length-weigh (calls_by n xs), suc-mul n calls)

all_calls : (callers calls : ℕ) (xs : Counts) → ((m : ℕ) → callers ≤ m → calls_by m xs ≡ []) → ((m : ℕ) → m < callers → length (calls_by m xs) ≡ calls) → length xs ≡ callers * calls
all_calls callers calls xs none each = omega (arith, length-weigh xs, weigh_parts (λ (_ : Entry ℕ (Unit {0}) (Unit {0})). 1) callers xs none, below callers calls xs each)

-- the value that the closed shelf gives
pub value_is : (left : ℕ) (opens : List (Unit {0} × ℕ)) (o : Unit {0} × ℕ) (xs : ℕ → Counts) (value callers calls : ℕ) → left ≡ 0 → opens ≡ (tt, 0) ∷ [] → get_elem? opens left ≡ some o → value ≡ last_of o.1 (xs left)
    → IsLegal (λ _ before _ _ after. AddsOne before after) 0 (xs 0) → ((m : ℕ) → callers ≤ m → calls_by m (xs 0) ≡ []) → ((m : ℕ) → m < callers → length (calls_by m (xs 0)) ≡ calls) → value ≡ (callers * calls) % 2 ^ 64
value_is left opens o xs value callers calls at is here last h none each =
    let first : (tt, 0) ≡ o = some-injective (tt, 0) o (sym (ap (λ (z : List (Unit {0} × ℕ) × ℕ). get_elem? z.0 z.1) (λ n. (is n, at n))) ∙ here) in
    let sum : last_of 0 (xs 0) ≡ (0 + length (xs 0)) % 2 ^ 64 = last_count 0 (xs 0) (omega arith) h in
    let there : value ≡ last_of 0 (xs 0) = last ∙ ap (λ (z : (Unit {0} × ℕ) × ℕ). last_of z.0.1 (xs z.1)) (λ n. (sym first n, at n)) in
    let all = all_calls callers calls (xs 0) none each in
    omega arith
