-- Sums over the views, and how often a number stands in a list.
use Rattle.std.proofs.Common.{◌≡◌, ◌≢◌, ℕ, zero, suc, ◌+◌, ◌-◌, ◌<◌, ◌≤◌, List, [], ◌∷◌, ◌++◌, length, set, sym, refl, ap, ◌∙◌, subst, arith, length-append}
use Rattle.std.specs.Prelude.{ltb, eqb, if◌then◌else◌}
use Rattle.std.proofs.lemmas.Bool.Decides.{nat_tests}
use mathlib.Core.Option.{some, some-injective, some-ne-none}
use lib.ListN.{get_elem?}
use Rattle.scan_claim.specs.declared.view.Draws.{Draws}
use Rattle.scan_claim.specs.Drawing.{times, late, flat, once_below, total, EndsOnce}

pub total_set : (f : Draws → ℕ) (views : List Draws) (id : ℕ) (v w : Draws) → get_elem? views id ≡ some v → total f (set views id w) + f v ≡ total f views + f w
total_set f [] id v w e = absurd (some-ne-none v (sym e))
total_set f (x ∷ xs) zero v w e = let is : f x ≡ f v = ap f (some-injective x v e) in omega arith
total_set f (x ∷ xs) (suc id) v w e = let r = total_set f xs id v w e in omega arith

pub total_snoc : (f : Draws → ℕ) (views : List Draws) (w : Draws) → total f (views ++ w ∷ []) ≡ total f views + f w
total_snoc f [] w = omega arith
total_snoc f (x ∷ xs) w = let r = total_snoc f xs w in omega arith

pub total_at : (f : Draws → ℕ) (views : List Draws) (id : ℕ) (v : Draws) → get_elem? views id ≡ some v → f v ≤ total f views
total_at f [] id v e = absurd (some-ne-none v (sym e))
total_at f (x ∷ xs) zero v e = let is : f x ≡ f v = ap f (some-injective x v e) in omega arith
total_at f (x ∷ xs) (suc id) v e = let r = total_at f xs id v e in omega arith

pub total_le : (f g : Draws → ℕ) (views : List Draws) → ((id : ℕ) (v : Draws) → get_elem? views id ≡ some v → f v ≤ g v) → total f views ≤ total g views
total_le f g [] h = omega arith
total_le f g (x ∷ xs) h = let r = total_le f g xs (λ id v e. h (suc id) v e) in let here = h 0 x refl in omega arith

-- where one view is less by one, the sum is
pub total_gap : (f g : Draws → ℕ) (views : List Draws) (id : ℕ) (v : Draws) → ((id : ℕ) (v : Draws) → get_elem? views id ≡ some v → f v ≤ g v) → get_elem? views id ≡ some v → f v + 1 ≤ g v
    → total f views + 1 ≤ total g views
total_gap f g [] id v h e l = absurd (some-ne-none v (sym e))
total_gap f g (x ∷ xs) zero v h e l = let is : x ≡ v = some-injective x v e in let a : f x ≡ f v = ap f is in let b : g x ≡ g v = ap g is in let r = total_le f g xs (λ id v e. h (suc id) v e) in omega arith
total_gap f g (x ∷ xs) (suc id) v h e l = let r = total_gap f g xs id v (λ id v e. h (suc id) v e) e l in let here = h 0 x refl in omega arith

-- two views at two places
pub total_two : (f : Draws → ℕ) (views : List Draws) (id other : ℕ) (v w : Draws) → get_elem? views id ≡ some v → other ≢ id → get_elem? views other ≡ some w → f v + f w ≤ total f views
total_two f [] id other v w e n e' = absurd (some-ne-none v (sym e))
total_two f (x ∷ xs) zero zero v w e n e' = absurd (n refl)
total_two f (x ∷ xs) zero (suc other) v w e n e' = let is : f x ≡ f v = ap f (some-injective x v e) in let r = total_at f xs other w e' in omega arith
total_two f (x ∷ xs) (suc id) zero v w e n e' = let is : f x ≡ f w = ap f (some-injective x w e') in let r = total_at f xs id v e in omega arith
total_two f (x ∷ xs) (suc id) (suc other) v w e n e' = let r = total_two f xs id other v w e (λ same. n (ap suc same)) e' in omega arith

pub times-append : (x : ℕ) (xs ys : List ℕ) → times x (xs ++ ys) ≡ times x xs + times x ys
times-append x [] ys = omega arith
times-append x (z ∷ zs) ys = let r = times-append x zs ys in omega arith

pub late-append : (b : ℕ) (xs ys : List ℕ) → late b (xs ++ ys) ≡ late b xs + late b ys
late-append b [] ys = omega arith
late-append b (z ∷ zs) ys = let r = late-append b zs ys in omega arith

pub flat-append : (ls ks : List (List ℕ)) → flat (ls ++ ks) ≡ flat ls ++ flat ks
flat-append [] ks = refl
flat-append (l ∷ ls) ks = ap (λ (m : List ℕ). l ++ m) (flat-append ls ks) ∙ sym (Rattle.std.proofs.Common.append_assoc l (flat ls) (flat ks))

pub times_snoc : (x n : ℕ) (l : List ℕ) → times x (l ++ n ∷ []) ≡ times x l + (if eqb n x then 1 else 0)
times_snoc x n l = omega (arith, times-append x l (n ∷ []))

pub late_snoc : (b n : ℕ) (l : List ℕ) → late b (l ++ n ∷ []) ≡ late b l + (if ltb n b then 0 else 1)
late_snoc b n l = omega (arith, late-append b l (n ∷ []))

pub once_more : (x n : ℕ) → once_below x (n + 1) ≡ once_below x n + (if eqb n x then 1 else 0)
once_more x n = grind (arith, nat_tests)

pub late_more : (b n : ℕ) → (n + 1) - b ≡ (n - b) + (if ltb n b then 0 else 1)
late_more b n = grind (arith, nat_tests)

pub ends_few : (b : ℕ) (ls : List (List ℕ)) → EndsOnce b ls → late b (flat ls) ≤ length ls
ends_few b [] h = omega arith
ends_few b (l ∷ ls) h = let r = ends_few b ls h.1 in let here = h.0 in omega (arith, late-append b l (flat ls))

pub ends-append : (b : ℕ) (ls ks : List (List ℕ)) → EndsOnce b ls → EndsOnce b ks → EndsOnce b (ls ++ ks)
ends-append b [] ks h g = g
ends-append b (l ∷ ls) ks h g = (h.0, ends-append b ls ks h.1 g)

pub late_le : (b n : ℕ) → (if ltb n b then 0 else 1) ≤ 1
late_le b n = grind (arith, nat_tests)

pub total_none : (f : Draws → ℕ) (views : List Draws) → ((j : ℕ) (u : Draws) → get_elem? views j ≡ some u → f u ≡ 0) → total f views ≡ 0
total_none f [] h = refl
total_none f (x ∷ xs) h = let a = h 0 x refl in let r = total_none f xs (λ j u e. h (suc j) u e) in omega arith

-- where the others have none, one view has all
pub total_alone : (f : Draws → ℕ) (views : List Draws) (id : ℕ) (v : Draws) → get_elem? views id ≡ some v → ((j : ℕ) (u : Draws) → j ≢ id → get_elem? views j ≡ some u → f u ≡ 0) → total f views ≡ f v
total_alone f [] id v e h = absurd (some-ne-none v (sym e))
total_alone f (x ∷ xs) zero v e h = let is : f x ≡ f v = ap f (some-injective x v e) in let r = total_none f xs (λ j u e'. h (suc j) u (λ z. omega arith) e') in omega arith
total_alone f (x ∷ xs) (suc id) v e h = let a = h 0 x (λ z. omega arith) refl in let r = total_alone f xs id v e (λ j u n e'. h (suc j) u (λ z. n (omega arith)) e') in omega arith

pub once_none : (x : ℕ) → once_below x 0 ≡ 0
once_none x = grind (arith, nat_tests)
