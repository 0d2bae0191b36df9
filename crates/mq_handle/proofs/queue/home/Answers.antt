use Rattle.std.proofs.Common.{ap, sym, ◌∙◌, ◌++◌}
use Rattle.ring_rule.specs.Ring.{Receiving}
use Rattle.mq_ring.specs.Ends.{SendingEnd}
use Rattle.mq_handle.proofs.Whole.{whole_front}
use Rattle.mq_handle.proofs.queue.home.Goals as goal

pub returns-clause-beginning : goal.returns-clause-beginning
returns-clause-beginning c =
    let t = c.home.ensures.ends.tied.taken in
    whole_front _ _ t.0 (sym (ap (λ (o : SendingEnd). o.end.put) c.into_ring-tx.ensures.ring) ∙ t.1 ∙ ap (λ (q : Receiving). q.taken ++ t.0) c.into_ring-rx.ensures.end.0)
