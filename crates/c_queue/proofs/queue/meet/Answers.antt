use Rattle.std.proofs.Common.{ap, sym, ◌∙◌, ◌++◌}
use Rattle.mq_handle.specs.Receives.{Incoming}
use Rattle.c_queue.specs.Sides.{Outgoing}
use Rattle.mq_handle.proofs.Whole.{whole_front}
use Rattle.c_queue.proofs.queue.meet.Goals as goal

pub returns-clause-beginning : goal.returns-clause-beginning
returns-clause-beginning c =
    let t = c.meet.ensures.ends.tied.taken in
    whole_front _ _ t.0 (sym (ap (λ (o : Outgoing). o.sender.end.put) c.tx.view_is) ∙ t.1 ∙ ap (λ (q : Incoming). q.end.taken ++ t.0) c.rx.view_is)
