-- A list that is shared out by a number of each element.
use Rattle.std.proofs.Common.{◌≡◌, ◌<◌, ◌≤◌, ◌+◌, ◌++◌, ◌==◌, ◌⊎◌, ℕ, zero, suc, Bool, true, false, cond, not, List, [], ◌∷◌, All, filter, inl, inr, refl, ap, sym, subst, ◌∙◌, arith}
use Rattle.std.specs.List.{flat_map}
use Rattle.std.specs.List.Sorted.{IsPermutation}
use Rattle.std.proofs.lemmas.Bool.{eq-eqb, eqb-true, ne_eqb}
use Rattle.std.proofs.lemmas.List.Elements.{All-cons, All-head, All-nil, All-tail}
use Rattle.std.proofs.lemmas.List.Sorted.{IsPermutation-append_right, IsPermutation-filter_both, IsPermutation-refl, IsPermutation-sym, IsPermutation-trans}
use Rattle.gather_law.proofs.Keys.{filter_through}

three : (a b : ℕ) → (a < b) ⊎ ((a ≡ b) ⊎ (b < a))
three zero zero = inr (inl refl)
three zero (suc b) = inl (omega arith)
three (suc a) zero = inr (inr (omega arith))
three (suc a) (suc b) = more (three a b)
  where
    more : (a < b) ⊎ ((a ≡ b) ⊎ (b < a)) → (suc a < suc b) ⊎ ((suc a ≡ suc b) ⊎ (suc b < suc a))
    more (inl lt) = inl (omega (arith, lt))
    more (inr (inl e)) = inr (inl (ap suc e))
    more (inr (inr lt)) = inr (inr (omega (arith, lt)))

not_false : (b : Bool) → not b ≡ false → b ≡ true
not_false true e = refl
not_false false e = cc

module _ {X : Type 0} (f : X → ℕ) where
  abbrev pub is : ℕ → X → Bool
  is k x = f x == k

  abbrev others : ℕ → X → Bool
  others k x = not (is k x)

  -- the elements of this many numbers, from one on
  abbrev pub shares_from : ℕ → ℕ → List X → List (List X)
  shares_from zero k xs = []
  shares_from (suc c) k xs = filter (is k) xs ∷ shares_from c (suc k) xs

  no_both : (j k : ℕ) → j < k → (x : X) → others j x ≡ false → is k x ≡ false
  no_both j k lt x e = ne_eqb (f x) k (λ same. omega (arith, lt, same, eqb-true (f x) j (not_false (is j x) e)))

  -- those of a number make no difference to the shares of later ones
  same_shares : (c k j : ℕ) (xs : List X) → j < k → shares_from c k (filter (others j) xs) ≡ shares_from c k xs
  same_shares zero k j xs lt = refl
  same_shares (suc c) k j xs lt =
      ap (λ (l : List X). l ∷ shares_from c (suc k) (filter (others j) xs)) (filter_through (others j) (is k) (no_both j k lt) xs)
      ∙ ap (λ (ls : List (List X)). filter (is k) xs ∷ ls) (same_shares c (suc k) j xs (omega (arith, lt)))

  abbrev Between : ℕ → ℕ → X → Type 0
  Between low high x = (low ≤ f x) × (f x < high)

  later : (c k : ℕ) (xs : List X) → All (Between k (k + suc c)) xs → All (Between (suc k) (suc k + c)) (filter (others k) xs)
  later c k [] h = All-nil (Between (suc k) (suc k + c))
  later c k (x ∷ xs) h = by (is k x) refl (later c k xs (All-tail (Between k (k + suc c)) x xs h))
    where
      head : (k ≤ f x) × (f x < k + suc c)
      head = All-head (Between k (k + suc c)) x xs h

      above : is k x ≡ false → (f x < k) ⊎ ((f x ≡ k) ⊎ (k < f x)) → suc k ≤ f x
      above e (inl less) = absurd (omega (arith, head.0, less))
      above e (inr (inl same)) = let no : false ≡ true = sym e ∙ eq-eqb (f x) k same in absurd (cc)
      above e (inr (inr more)) = omega (arith, more)

      by : (b : Bool) → is k x ≡ b → All (Between (suc k) (suc k + c)) (filter (others k) xs) → All (Between (suc k) (suc k + c)) (cond (not b) (x ∷ filter (others k) xs) (filter (others k) xs))
      by true e rest = rest
      by false e rest = All-cons (Between (suc k) (suc k + c)) x (filter (others k) xs) (above e (three (f x) k), omega (arith, head.1)) rest

  -- the shares of all numbers have all elements
  pub spread : (c k : ℕ) (xs : List X) → All (Between k (k + c)) xs → IsPermutation (flat_map (λ (share : List X). share) (shares_from c k xs)) xs
  spread zero k [] h = IsPermutation-refl []
  spread zero k (x ∷ xs) h = let b = All-head (Between k (k + zero)) x xs h in absurd (omega (arith, b.0, b.1))
  spread (suc c) k xs h =
      let mine = filter (is k) xs in
      let rest = filter (others k) xs in
      let more = flat_map (λ (share : List X). share) (shares_from c (suc k) xs) in
      let those : IsPermutation more rest =
      subst (λ (ls : List (List X)). IsPermutation (flat_map (λ (share : List X). share) ls) rest) (same_shares c (suc k) k xs (omega arith)) (spread c (suc k) rest (later c k xs h)) in
      IsPermutation-trans (mine ++ more) (mine ++ rest) xs (IsPermutation-append_right mine more rest those)
      (IsPermutation-sym xs (mine ++ rest) (IsPermutation-filter_both (is k) (others k) (λ x. refl) xs))
