use Rattle.std.proofs.Common.{◌≡◌, ◌∙◌, ap, List, [], ◌∷◌, ◌++◌, length, arith, length-append}
use mathlib.Core.Option.{some}
use lib.ListN.{get_elem?}
use Rattle.scan_claim.specs.declared.claims.ClaimSeat.{ClaimSeat}
use Rattle.uses_words.proofs.claims.for_two.Goals as goal

-- a list of two, popped twice
both : (all xs ys : List ClaimSeat) (zero one : ClaimSeat) → all ≡ xs ++ one ∷ [] → xs ≡ ys ++ zero ∷ [] → length all ≡ 2 → (get_elem? all 0 ≡ some zero) × (get_elem? all 1 ≡ some one)
both all xs [] zero one e f len = let is : all ≡ zero ∷ one ∷ [] = e ∙ ap (λ (m : List ClaimSeat). m ++ one ∷ []) f in (ap (λ (m : List ClaimSeat). get_elem? m 0) is, ap (λ (m : List ClaimSeat). get_elem? m 1) is)
both all xs (y ∷ ys) zero one e f len = absurd (omega (arith, ap length e, ap length f, length-append xs (one ∷ []), length-append (y ∷ ys) (zero ∷ [])))

pub returns-clause-zero : goal.returns-clause-zero
returns-clause-zero c = let s = c.in_ok-claims.ensures.seats in s.1 0 c.in-Some-pop.zero (both _ _ _ _ _ c.in-Some.ensures.items c.in-Some-pop.ensures.items (s.0 ∙ c.in_ok-claims.ensures.counts.1)).0

pub returns-clause-one : goal.returns-clause-one
returns-clause-one c = let s = c.in_ok-claims.ensures.seats in s.1 1 c.in-Some.one (both _ _ _ _ _ c.in-Some.ensures.items c.in-Some-pop.ensures.items (s.0 ∙ c.in_ok-claims.ensures.counts.1)).1
