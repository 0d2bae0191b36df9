use Rattle.std.proofs.Common.{◌≡◌, List, [], ◌∷◌, ◌++◌, length, length-append, ap, ◌∙◌, arith}
use mathlib.Core.Option.{some}
use lib.ListN.{get_elem?}
use Rattle.uses_area.proofs.areas.area_for_one.Goals as goal

-- a list of one, popped
alone : {A : Type 0} (all xs : List A) (x : A) → all ≡ xs ++ x ∷ [] → length all ≡ 1 → get_elem? all 0 ≡ some x
alone {A} all [] x e len = ap (λ (m : List A). get_elem? m 0) e
alone all (y ∷ ys) x e len = absurd (omega (arith, ap length e, length-append (y ∷ ys) (x ∷ [])))

pub returns-clause-pass : goal.returns-clause-pass
returns-clause-pass c =
    let s = c.in_ok-region.ensures in
    s.passes.each 0 c.in-Some.pass (alone _ _ _ c.in-Some.ensures.items (s.passes.count ∙ s.callers))

pub returns-clause-fresh : goal.returns-clause-fresh
returns-clause-fresh c =
    let s = c.in_ok-region.ensures in
    s.fresh 0 c.in-Some.pass (alone _ _ _ c.in-Some.ensures.items (s.passes.count ∙ s.callers))
