use Rattle.std.proofs.Common.{◌∷◌, ◌++◌, [], refl, sym, subst, arith}
use Rattle.ring_rule.specs.Frames.{IsFramed}
use Rattle.mq_ring.specs.Ends.{SendingEnd}
use Rattle.uses_region.proofs.Frames.{one_word}
use Rattle.uses_region.proofs.tests.a_word_goes_from_thread_to_thread.Goals as goal

pub create-tx-requires-clause-power : goal.create-tx-requires-clause-power
create-tx-requires-clause-power g c = (2, refl, omega arith)

pub at_once-tx-requires-clause-framed : goal.at_once-tx-requires-clause-framed
at_once-tx-requires-clause-framed g c κs = subst (λ (e : SendingEnd). IsFramed e.end.ring.max (e.end.put ++ (10 ∷ []))) (sym c.create-tx.ensures.tx) one_word
