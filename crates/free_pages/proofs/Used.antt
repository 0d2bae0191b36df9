-- How many pages are in granted runs: with one run more, and at most.
use Rattle.std.proofs.Common.{◌≡◌, ℕ, ◌+◌, ◌≤◌, List, [], ◌∷◌, ◌++◌, refl, sym, ap, ◌∙◌, arith}
use Rattle.free_pages.specs.Legal.{Granted, Adds, AreApart, used_by}

used_with : (xs ys : List Granted) (g : Granted) → used_by (xs ++ (g ∷ ys)) ≡ g.len + used_by (xs ++ ys)
used_with [] ys g = refl
used_with (x ∷ xs) ys g = ap (λ (z : ℕ). x.len + z) (used_with xs ys g) ∙ swap x.len g.len (used_by (xs ++ ys))
  where
    swap : (a b c : ℕ) → a + (b + c) ≡ b + (a + c)
    swap a b c = omega arith

-- a run more has its pages
pub used_adds : (before after : List Granted) (g : Granted) → Adds before after g → used_by after ≡ g.len + used_by before
used_adds before after g a = ap used_by a.3 ∙ used_with a.0 a.1 g ∙ ap (λ (l : List Granted). g.len + used_by l) (sym a.2)

-- runs that are apart have no more than all pages
pub used_most : (pages low : ℕ) (gs : List Granted) → low ≤ pages → AreApart pages low gs → low + used_by gs ≤ pages
used_most pages low [] h a = omega arith
used_most pages low (g ∷ gs) h a = let z = used_most pages (g.from + g.len) gs a.2 a.3 in let y = a.0 in omega arith
