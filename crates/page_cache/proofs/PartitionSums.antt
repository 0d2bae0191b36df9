-- Sums over the partitions.
use Rattle.std.proofs.Common.{◌≡◌, ◌≢◌, ℕ, zero, suc, ◌+◌, ◌<◌, refl, sym, ap, subst, arith}
use mathlib.Core.Logic.{dite}
use native.Mathlib.Decide.{ℕ_discrete}
use Rattle.page_cache.specs.Tickets.{sum_below}

pub sum_same : (n : ℕ) (f g : ℕ → ℕ) → ((i : ℕ) → i < n → g i ≡ f i) → sum_below n g ≡ sum_below n f
unfolding sum_below
sum_same zero f g h = refl
sum_same (suc n) f g h =
    let r = sum_same n f g (λ i lt. h i (omega arith)) in
    let l = h n (omega arith) in
    omega (arith, r, l)

-- one of the numbers is larger
pub sum_more : (n : ℕ) (f g : ℕ → ℕ) (k x : ℕ) → k < n → g k ≡ f k + x → ((i : ℕ) → i ≢ k → g i ≡ f i) → sum_below n g ≡ sum_below n f + x
unfolding sum_below
sum_more zero f g k x low here others = absurd (omega arith)
sum_more (suc n) f g k x low here others = dite (ℕ_discrete n k)
    (λ e.
    let rest = sum_same n f g (λ i lt. others i (λ same. omega arith)) in
    let last : g n ≡ f n + x = subst (λ (z : ℕ). g z ≡ f z + x) (sym e) here in
    omega (arith, rest, last))
    (λ ne.
    let rest = sum_more n f g k x (omega arith) here others in
    let last = others n ne in
    omega (arith, rest, last))

-- the sum of sums
pub sum_both : (n : ℕ) (f g : ℕ → ℕ) → sum_below n (λ i. f i + g i) ≡ sum_below n f + sum_below n g
unfolding sum_below
sum_both zero f g = refl
sum_both (suc n) f g = let r = sum_both n f g in omega (arith, r)

pub sum_zero : (n : ℕ) → sum_below n (λ _. 0) ≡ 0
unfolding sum_below
sum_zero zero = refl
sum_zero (suc n) = let r = sum_zero n in omega (arith, r)

-- the last of the numbers
pub sum_last : (n m : ℕ) (f : ℕ → ℕ) → n ≡ m + 1 → sum_below n f ≡ sum_below m f + f m
unfolding sum_below
sum_last n m f e = let next : n ≡ suc m = omega (arith, e) in ap (λ (z : ℕ). sum_below z f) next
