-- The passes of an area, taken from the last to the first.
use Rattle.std.proofs.Common.{◌≡◌, ℕ, suc, ◌+◌, List, [], ◌∷◌, ◌++◌, length, map, refl, ap, ◌∙◌, arith, length-append}
use Rattle.std.proofs.lemmas.List.{length-map}
use mathlib.Core.Option.{some}
use lib.ListN.{get_elem?}
use Rattle.lock_book.specs.Shown as shelf
use Rattle.dsa_area.specs.declared.area.Area.{Area}
use Rattle.dsa_area.specs.declared.area.AreaPass.{AreaPass}
use Rattle.dsa_area.specs.Shown.{AreAll, Belongs, callers_of, number_of}

at_here : {A : Type 0} (xs ys : List A) (x : A) → get_elem? (xs ++ x ∷ ys) (length xs) ≡ some x
at_here [] ys x = refl
at_here (z ∷ zs) ys x = at_here zs ys x

module _ (a : Area) (all xs rest : List AreaPass) (p : AreaPass) (is : all ≡ xs ++ p ∷ rest) (k : AreAll a all) where
  at : get_elem? all (length xs) ≡ some p
  at = ap (λ (l : List AreaPass). get_elem? l (length xs)) is ∙ at_here xs rest p

  -- the pass between those that are left and those that were taken is one of the area's
  pub pass_here : Belongs a p
  pass_here = k.each (length xs) p at

  -- its number is as many as are left
  pub pass_number : number_of p ≡ length xs
  pass_number = k.numbers (length xs) p at

  -- those that are left, it and those that were taken are all
  passes_all : length xs + suc (length rest) ≡ callers_of a
  passes_all = omega (arith, ap length is, length-append xs (p ∷ rest), k.count)

  -- so it is the next before those that were taken, at the pages
  pub pages_before : (first : ℕ) → first + length (map (λ (q : AreaPass). q.pages) rest) ≡ callers_of a → number_of p + 1 ≡ first
  pages_before first h = omega (arith, h, length-map rest (λ (q : AreaPass). q.pages), pass_number, passes_all)

  -- and at the pools
  pub pools_before : (first : ℕ) → shelf.callers_of a.pools ≡ callers_of a → first + length (map (λ (q : AreaPass). q.pools) rest) ≡ shelf.callers_of a.pools → shelf.number_of p.pools + 1 ≡ first
  pools_before first same h = omega (arith, h, same, length-map rest (λ (q : AreaPass). q.pools), pass_number, passes_all, pass_here.one_caller)

-- the pass that is taken first is that of the last caller, at the pages
pub last_pages : (a : Area) (all xs rest : List AreaPass) (p : AreaPass) → all ≡ xs ++ p ∷ rest → AreAll a all → rest ≡ [] → number_of p + 1 ≡ callers_of a
last_pages a all xs rest p is k none = pages_before a all xs rest p is k (callers_of a) (let h : length (map (λ (q : AreaPass). q.pages) rest) ≡ 0 = ap (λ (l : List AreaPass). length (map (λ (q : AreaPass). q.pages) l)) none in omega arith)

-- and at the pools
pub last_pools : (a : Area) (all xs rest : List AreaPass) (p : AreaPass) → all ≡ xs ++ p ∷ rest → AreAll a all → rest ≡ [] → shelf.callers_of a.pools ≡ callers_of a → shelf.number_of p.pools + 1 ≡ shelf.callers_of a.pools
last_pools a all xs rest p is k none same = pools_before a all xs rest p is k (shelf.callers_of a.pools) same (let h : length (map (λ (q : AreaPass). q.pools) rest) ≡ 0 = ap (λ (l : List AreaPass). length (map (λ (q : AreaPass). q.pools) l)) none in omega arith)
