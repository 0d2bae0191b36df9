use Rattle.std.proofs.Common.{◌≡◌, ℕ, zero, suc, List, [], ◌∷◌, ◌++◌, sym, ap, subst, ◌∙◌}
use mathlib.Core.Option.{some, some-injective}
use lib.ListN.{get_elem?}
use Rattle.dsa_area.specs.declared.area.Area.{Area}
use Rattle.dsa_area.specs.declared.area.AreaPass.{AreaPass}
use Rattle.dsa_area.specs.Shown.{AreAll, Belongs, callers_of, number_of}
use Rattle.dsa_area.specs.Ending.{Ended}
use Rattle.uses_area.proofs.areas.two.close_two.Goals as goal

one_of_two : (P : ℕ → AreaPass → Type 0) (first second : AreaPass) → P 0 first → P 1 second → (k : ℕ) (p : AreaPass) → get_elem? (first ∷ second ∷ []) k ≡ some p → P k p
one_of_two P first second a b zero p e = subst (P 0) (some-injective first p e) a
one_of_two P first second a b (suc zero) p e = subst (P 1) (some-injective second p e) b
one_of_two P first second a b (suc (suc k)) p e = absurd (cc)

two_all : (area : Area) (first second : AreaPass) → callers_of area ≡ 2 → Belongs area first × (number_of first ≡ 0) → Belongs area second × (number_of second ≡ 1) → AreAll area (first ∷ second ∷ [])
two_all area first second e a b = record {
  count = sym e;
  each = one_of_two (λ k p. Belongs area p) first second a.0 b.0;
  numbers = one_of_two (λ k p. number_of p ≡ k) first second a.1 b.1;
}

pub close-requires-clause-all : goal.close-requires-clause-all
close-requires-clause-all c =
    let all : c.push-2.new.self.items ≡ c.args.zero ∷ c.args.one ∷ [] = c.in_ok-push-2.ensures.items ∙ ap (λ (l : List AreaPass). l ++ c.args.one ∷ []) (c.in_ok-push.ensures.items ∙ ap (λ (l : List AreaPass). l ++ c.args.zero ∷ []) c.new-passes.ensures.items) in
    subst (AreAll c.args.area) (sym all) (two_all c.args.area c.args.zero c.args.one c.requires.callers c.requires.zero c.requires.one)

pub returns : goal.returns
returns c =
    let all : c.push-2.new.self.items ≡ c.args.zero ∷ c.args.one ∷ [] = c.in_ok-push-2.ensures.items ∙ ap (λ (l : List AreaPass). l ++ c.args.one ∷ []) (c.in_ok-push.ensures.items ∙ ap (λ (l : List AreaPass). l ++ c.args.zero ∷ []) c.new-passes.ensures.items) in
    subst (λ (l : List AreaPass). Ended c.args.area l c.close.result) all c.close.ensures.ended
