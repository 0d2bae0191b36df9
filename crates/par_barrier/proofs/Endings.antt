-- The passes of a barrier, taken from the last to the first.
use Rattle.std.proofs.Common.{◌≡◌, ℕ, suc, ◌+◌, List, [], ◌∷◌, ◌++◌, length, map, refl, ap, ◌∙◌, arith, length-append}
use Rattle.std.proofs.lemmas.List.{append_assoc, length-map}
use mathlib.Core.Option.{some}
use lib.ListN.{get_elem?}
use Rattle.par_barrier.specs.declared.barrier.Barrier.{Barrier}
use Rattle.par_barrier.specs.declared.barrier.BarrierPass.{BarrierPass}
use Rattle.par_barrier.specs.Shown.{AreAll, Belongs, callers_of, number_of}

-- one more pass was taken from those that are left
pub taken : (all left xs rest : List BarrierPass) (p : BarrierPass) → all ≡ left ++ rest → left ≡ xs ++ p ∷ [] → all ≡ xs ++ p ∷ rest
taken all left xs rest p e f = e ∙ (ap (λ (l : List BarrierPass). l ++ rest) f ∙ append_assoc xs (p ∷ []) rest)

at_here : (xs ys : List BarrierPass) (x : BarrierPass) → get_elem? (xs ++ x ∷ ys) (length xs) ≡ some x
at_here [] ys x = refl
at_here (z ∷ zs) ys x = at_here zs ys x

module _ (b : Barrier) (all xs rest : List BarrierPass) (p : BarrierPass) (is : all ≡ xs ++ p ∷ rest) (k : AreAll b all) where
  -- the pass between those that are left and those that were taken is one of the barrier's, and its number is as many
  -- as are left
  pub pass_here : Belongs b p × (number_of p ≡ length xs)
  pass_here = k.each (length xs) p (ap (λ (l : List BarrierPass). get_elem? l (length xs)) is ∙ at_here xs rest p)

  -- so it is the next before those that were taken
  pub pass_before : (first : ℕ) → first + length (map (λ (q : BarrierPass). q.pass) rest) ≡ callers_of b → number_of p + 1 ≡ first
  pass_before first h =
      let all_of : length xs + suc (length rest) ≡ callers_of b = omega (arith, ap length is, length-append xs (p ∷ rest), k.count) in
      omega (arith, h, length-map rest (λ (q : BarrierPass). q.pass), pass_here.1, all_of)
