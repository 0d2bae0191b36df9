use Rattle.std.proofs.Common.{◌≡◌, ℕ, ◌+◌, ◌<◌, ◌≤◌, refl, ◌∙◌, subst, arith}
use mathlib.Core.Logic.{dite}
use native.Mathlib.Decide.{dec_lt}
use Rattle.dshash_parts.proofs.Sweeps.{swept_none, swept_more, swept_until}
use Rattle.chunk_table.proofs.growing.grow_all.Goals as goal

-- what is large for all below n, and at n, is large for all below the next
one_more : (f g : ℕ → ℕ) (size n : ℕ) → n < 128 → ((k : ℕ) → k < 128 → f k ≤ g k) → ((k : ℕ) → k < n → size ≤ f k) → size ≤ g n → (k : ℕ) → k < n + 1 → size ≤ g k
one_more f g size n low grows large here k lt = dite (dec_lt k n)
    (λ below. let a = grows k (omega arith) in let b = large k below in omega arith)
    (λ not_below. let e : n ≡ k = omega arith in subst (λ (z : ℕ). size ≤ g z) e here)

pub loop-number-init : goal.loop-number-init
loop-number-init g c = record { own = c.requires.own; caller = refl; area_own = c.requires.area_own; area_caller = refl; grows = λ k low. omega arith; large = λ k low. absurd (omega arith); swept = swept_none _ _ _ _ _ }

pub loop-number-preserved : goal.loop-number-preserved
loop-number-preserved g c =
    let i = c.loop-number.invariant in
    let e = c.in-Ok.ensures in record {
      own = e.own;
      caller = c.in-Ok.ensures.caller ∙ c.loop-number.invariant.caller;
      area_own = e.area_own;
      area_caller = c.in-Ok.ensures.area_caller ∙ c.loop-number.invariant.area_caller;
      grows = λ k low. (let x = i.grows k low in let y = e.grows k low in omega arith);
      large = one_more _ _ c.args.size c.loop-number.number c.loop-number-test.true e.grows i.large e.large;
      swept = swept_more _ _ _ _ c.loop-number.number _ _ _ _ _ i.swept i.caller e.grown;
    }

pub returns-in-Err-clause-swept : goal.returns-in-Err-clause-swept
returns-in-Err-clause-swept g c = swept_until _ _ _ _ c.loop-number.number _ c.loop-number.number _ _ _ _ _ (omega arith) c.loop-number.invariant.swept c.loop-number.invariant.caller c.in-Err.ensures.grown
