-- The passes as they are made.
use Rattle.std.proofs.Common.{◌≡◌, ℕ, zero, suc, ◌+◌, ◌*◌, ◌-◌, ◌<◌, List, [], ◌∷◌, ◌++◌, length, map, sym, refl, ap, ◌∙◌, subst, arith, replicate}
use mathlib.Core.Option.{some, some-injective, some-ne-none}
use lib.ListN.{get_elem?}
use Rattle.lock_book.specs.declared.view.View.{View}
use Rattle.lock_book.specs.Ruled.{first_caller, other_callers, fresh_pass, newcomers, Ruled}
use Rattle.atomic_table.specs.Table.{opening}
use Rattle.lock_book.proofs.Joins.{opens_so}
use Rattle.lock_book.proofs.Uses.{map_at, at_map}

module _ {A : Type 0} where
  -- a fact of each place, and of one more at the end
  pub each_snoc : (P : ℕ → A → Type 0) (xs : List A) (x : A) → ((k : ℕ) (s : A) → get_elem? xs k ≡ some s → P k s) → P (length xs) x → (k : ℕ) (s : A) → get_elem? (xs ++ x ∷ []) k ≡ some s → P k s
  each_snoc P [] x h p zero s e = subst (P 0) (some-injective x s e) p
  each_snoc P [] x h p (suc k) s e = absurd (some-ne-none s (sym e))
  each_snoc P (y ∷ ys) x h p zero s e = h 0 s e
  each_snoc P (y ∷ ys) x h p (suc k) s e = each_snoc (λ j. P (suc j)) ys x (λ j u e'. h (suc j) u e') p k s e

  pub map_length : {B : Type 0} (f : A → B) (xs : List A) → length (map f xs) ≡ length xs
  map_length f [] = refl
  map_length f (x ∷ xs) = ap suc (map_length f xs)

  pub map_twice : {B C : Type 0} (f : A → B) (g : B → C) (xs : List A) → map g (map f xs) ≡ map (λ x. g (f x)) xs
  map_twice f g [] = refl
  map_twice {C = C} f g (x ∷ xs) = ap (λ (l : List C). g (f x) ∷ l) (map_twice f g xs)

module _ {N S C R : Type 0} where
  first_of : (o : List (N × S)) (all k n m : ℕ) → n ≡ suc m → first_caller {C = C} {R = R} (fresh_pass o all k n) ≡ fresh_pass o all k 1
  first_of o all k zero m e = absurd (omega arith)
  first_of o all k (suc n) m e = refl

  rest_of : (o : List (N × S)) (all k n m : ℕ) → n ≡ suc m → other_callers {C = C} {R = R} (fresh_pass o all k n) ≡ fresh_pass o all (k + 1) m
  rest_of o all k zero m e = absurd (omega arith)
  rest_of o all k (suc n) m e = let s : n ≡ m = omega arith in ap (λ (z : ℕ). fresh_pass o all (k + 1) z) s

  pub dealt_first : (o : List (N × S)) (all k c : ℕ) (v w : View N S C R) → k < c → v ≡ fresh_pass o all k (c - k) → w ≡ first_caller v → w ≡ fresh_pass o all k 1
  dealt_first o all k c v w h e f = f ∙ (ap first_caller e ∙ first_of o all k (c - k) (c - (k + 1)) (omega arith))

  pub dealt_rest : (o : List (N × S)) (all k c : ℕ) (v w : View N S C R) → k < c → v ≡ fresh_pass o all k (c - k) → w ≡ other_callers v → w ≡ fresh_pass o all (k + 1) (c - (k + 1))
  dealt_rest o all k c v w h e f = f ∙ (ap other_callers e ∙ rest_of o all k (c - k) (c - (k + 1)) (omega arith))

  pub dealt_some : (o : List (N × S)) (all k c : ℕ) (v : View N S C R) → k < c → v ≡ fresh_pass o all k (c - k) → 0 < length v.owns
  dealt_some o all k c v h e = let l : length v.owns ≡ c - k = ap (λ (z : View N S C R). length z.owns) e ∙ many (c - k) in omega arith
    where
      many : (n : ℕ) → length (replicate {A = List (ℕ × Rattle.lock_book.specs.declared.view.Entry.Entry S C R)} n []) ≡ n
      many zero = refl
      many (suc n) = ap suc (many n)

module _ {X N S C R : Type 0} (slot_name : X → N) (slot_state : X → S) (legal : N → ℕ → S → C → R → S → Type 0) where
  pub opens_rule : {A : Type 0} (value_name : A → N) (value_state : A → S) (shelve : A → X) → ((x : A) → slot_name (shelve x) ≡ value_name x) → ((x : A) → slot_state (shelve x) ≡ value_state x)
      → (opens : List (N × S)) (callers n : ℕ) (values : List A) (slots : List X) (words : List ℕ) → opens ≡ map (λ x. (value_name x, value_state x)) values → slots ≡ map shelve values → words ≡ replicate (8 * n) 0 → length values ≡ n
      → Ruled slot_name slot_state legal opens callers (opening words slots (newcomers opens callers))
  opens_rule value_name value_state shelve same_name same_state opens callers n values slots words is shelved zero_words len =
      let count : length opens ≡ n = ap length is ∙ (map_length _ values ∙ len) in
      let ws : replicate (8 * length opens) 0 ≡ words = ap (λ (k : ℕ). replicate (8 * k) 0) count ∙ sym zero_words in
      subst (λ (w : List ℕ). Ruled slot_name slot_state legal opens callers (opening w slots (newcomers opens callers))) ws
      (opens_so slot_name slot_state legal opens callers slots
      (λ i o e. let m = map_at (λ x. (value_name x, value_state x)) values i o (sym (ap (λ (l : List (N × S)). get_elem? l i) is) ∙ e) in
      (shelve m.0, ap (λ (l : List X). get_elem? l i) shelved ∙ at_map shelve values i m.0 m.1, same_name m.0 ∙ ap (λ (p : N × S). p.0) m.2, same_state m.0 ∙ ap (λ (p : N × S). p.1) m.2)))

pub zeros_length : (n : ℕ) → length (replicate {A = ℕ} n 0) ≡ n
zeros_length zero = refl
zeros_length (suc n) = ap suc (zeros_length n)
