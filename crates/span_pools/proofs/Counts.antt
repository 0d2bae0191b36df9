-- How many objects are free, and what one change does to it.
use Rattle.std.proofs.Common.{◌≡◌, ◌≢◌, ℕ, zero, suc, ◌+◌, ◌<◌, ◌≤◌, Bool, true, false, cond, refl, sym, ap, ◌∙◌, arith}
use mathlib.Core.Logic.{dite}
use native.Mathlib.Decide.{ℕ_discrete}
use Rattle.span_pools.specs.Listed.{free_count}

unit : Bool → ℕ
unit b = cond {A = ℕ} b 1 0

pub count_same : (n : ℕ) (f g : ℕ → Bool) → ((j : ℕ) → j < n → g j ≡ f j) → free_count g n ≡ free_count f n
count_same zero f g h = refl
count_same (suc n) f g h = sum (g n) (f n) (free_count g n) (free_count f n) (h n (omega arith)) (count_same n f g (λ j l. h j (omega arith)))
  where
    sum : (a b : Bool) (x y : ℕ) → a ≡ b → x ≡ y → cond {A = ℕ} a 1 0 + x ≡ cond {A = ℕ} b 1 0 + y
    sum a b x y p q = ap (λ (c : Bool). cond {A = ℕ} c 1 0 + x) p ∙ ap (λ (z : ℕ). cond {A = ℕ} b 1 0 + z) q

-- one object is no longer free
pub count_less : (n i : ℕ) (f g : ℕ → Bool) → i < n → f i ≡ true → g i ≡ false → ((j : ℕ) → j < n → j ≢ i → g j ≡ f j) → free_count f n ≡ 1 + free_count g n
count_less zero i f g l a b same = absurd (omega arith)
count_less (suc n) i f g l a b same = dite (ℕ_discrete i n)
    (λ (e : i ≡ n). here (f n) (g n) (free_count f n) (free_count g n) (ap f (sym e) ∙ a) (ap g (sym e) ∙ b) (count_same n f g (λ j m. same j (omega arith) (λ x. omega arith))))
    (λ (m : i ≢ n). there (f n) (g n) (free_count f n) (free_count g n) (same n (omega arith) (λ x. m (sym x))) (count_less n i f g (omega arith) a b (λ j h k. same j (omega arith) k)))
  where
    here : (p q : Bool) (x y : ℕ) → p ≡ true → q ≡ false → y ≡ x → cond {A = ℕ} p 1 0 + x ≡ 1 + (cond {A = ℕ} q 1 0 + y)
    here true true x y d e s = cc
    here true false x y d e s = omega arith
    here false q x y d e s = cc

    there : (p q : Bool) (x y : ℕ) → q ≡ p → x ≡ 1 + y → cond {A = ℕ} p 1 0 + x ≡ 1 + (cond {A = ℕ} q 1 0 + y)
    there true true x y d e = omega arith
    there true false x y d e = cc
    there false true x y d e = cc
    there false false x y d e = omega arith

pub count_most : (n : ℕ) (f : ℕ → Bool) → free_count f n ≤ n
count_most zero f = omega arith
count_most (suc n) f = step (f n) (free_count f n) (count_most n f)
  where
    step : (b : Bool) (x : ℕ) → x ≤ n → cond {A = ℕ} b 1 0 + x ≤ suc n
    step true x h = omega arith
    step false x h = omega arith

-- where the count is 0, none is free
pub none_free : (n i : ℕ) (f : ℕ → Bool) → free_count f n ≡ 0 → i < n → f i ≡ false
none_free zero i f e l = absurd (omega arith)
none_free (suc n) i f e l = dite (ℕ_discrete i n)
    (λ (s : i ≡ n). ap f s ∙ here (f n) (free_count f n) e)
    (λ (m : i ≢ n). none_free n i f (there (f n) (free_count f n) e) (omega arith))
  where
    here : (b : Bool) (x : ℕ) → cond {A = ℕ} b 1 0 + x ≡ 0 → b ≡ false
    here true x e = absurd (omega arith)
    here false x e = refl

    there : (b : Bool) (x : ℕ) → cond {A = ℕ} b 1 0 + x ≡ 0 → x ≡ 0
    there true x e = absurd (omega arith)
    there false x e = omega arith

-- where it is not 0, one is free
pub one_free : (n : ℕ) (f : ℕ → Bool) → 0 < free_count f n → (i : ℕ) × (i < n) × (f i ≡ true)
one_free zero f h = absurd (omega arith)
one_free (suc n) f h = step (one_free n f) (f n) refl h
  where
    step : (0 < free_count f n → (i : ℕ) × (i < n) × (f i ≡ true)) → (b : Bool) → f n ≡ b → 0 < cond {A = ℕ} b 1 0 + free_count f n → (i : ℕ) × (i < suc n) × (f i ≡ true)
    step before true e h = (n, omega arith, e)
    step before false e h = let r = before (omega arith) in (r.0, omega arith, r.2)

-- where it is the number of objects, each is free
pub each_free : (n i : ℕ) (f : ℕ → Bool) → free_count f n ≡ n → i < n → f i ≡ true
each_free zero i f e l = absurd (omega arith)
each_free (suc n) i f e l = dite (ℕ_discrete i n)
    (λ (s : i ≡ n). ap f s ∙ here (f n) (free_count f n) e (count_most n f))
    (λ (m : i ≢ n). each_free n i f (there (f n) (free_count f n) e (count_most n f)) (omega arith))
  where
    here : (b : Bool) (x : ℕ) → cond {A = ℕ} b 1 0 + x ≡ suc n → x ≤ n → b ≡ true
    here true x e h = refl
    here false x e h = absurd (omega arith)

    there : (b : Bool) (x : ℕ) → cond {A = ℕ} b 1 0 + x ≡ suc n → x ≤ n → x ≡ n
    there true x e h = omega arith
    there false x e h = absurd (omega arith)

-- where it is less, one is not free
pub one_live : (n : ℕ) (f : ℕ → Bool) → free_count f n < n → (i : ℕ) × (i < n) × (f i ≡ false)
one_live zero f h = absurd (omega arith)
one_live (suc n) f h = step (one_live n f) (f n) refl h
  where
    step : (free_count f n < n → (i : ℕ) × (i < n) × (f i ≡ false)) → (b : Bool) → f n ≡ b → cond {A = ℕ} b 1 0 + free_count f n < suc n → (i : ℕ) × (i < suc n) × (f i ≡ false)
    step before true e h = let r = before (omega arith) in (r.0, omega arith, r.2)
    step before false e h = (n, omega arith, e)

-- where each is free, it is the number of objects
pub count_all : (n : ℕ) (f : ℕ → Bool) → ((i : ℕ) → i < n → f i ≡ true) → free_count f n ≡ n
count_all zero f h = refl
count_all (suc n) f h = step (f n) (free_count f n) (h n (omega arith)) (count_all n f (λ i l. h i (omega arith)))
  where
    step : (b : Bool) (x : ℕ) → b ≡ true → x ≡ n → cond {A = ℕ} b 1 0 + x ≡ suc n
    step true x e s = omega arith
    step false x e s = cc
