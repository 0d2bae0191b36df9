use Rattle.std.proofs.Common.{◌≡◌, ◌≢◌, arith, ◌∙◌}
use mathlib.Core.Logic.{dite}
use native.Mathlib.Decide.{ℕ_discrete}
use Rattle.word_map.proofs.Maps.{at-insert_same, at-insert_other, insert-just, just_has}
use Rattle.span_pools.proofs.Bits.{unmarked}
use Rattle.span_pools.proofs.marks.clear_marks.Goals as goal

pub store-requires-clause-owns : goal.store-requires-clause-owns
store-requires-clause-owns c = just_has _ _ _ _ c.loop-n.invariant.bits (omega arith) (omega arith)

pub loop-n-preserved : goal.loop-n-preserved
loop-n-preserved c = rw c.store.ensures (record {
  here = c.loop-n.invariant.here;
  bits = insert-just _ _ _ _ _ (just_has _ _ _ _ c.loop-n.invariant.bits (omega arith) (omega arith)) c.loop-n.invariant.bits;
  zeros = λ k h. dite (ℕ_discrete k c.loop-n.n)
      (λ (e : k ≡ c.loop-n.n). at-insert_same _ _ _ _ (omega arith))
      (λ (n : k ≢ c.loop-n.n). (at-insert_other _ _ _ _ (λ e. n (omega arith))) ∙ c.loop-n.invariant.zeros k (omega arith));
})

pub returns-clause-clear : goal.returns-clause-clear
returns-clause-clear c = unmarked c.args.layout _ c.loop-n.invariant.bits (λ k h. c.loop-n.invariant.zeros k (omega arith))
