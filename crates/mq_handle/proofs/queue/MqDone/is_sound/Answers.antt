use Rattle.std.proofs.Common.{◌≡◌, ◌++◌, List, ℕ, subst}
use Rattle.mq_ring.specs.Ends.{EndsHome}
use Rattle.mq_handle.specs.Messages.{whole_of}
use Rattle.mq_handle.proofs.Whole.{whole_front}
use Rattle.mq_handle.proofs.queue.MqDone.is_sound.Goals as goal

pub returns-clause-beginning : goal.returns-clause-beginning
returns-clause-beginning c =
    let t = c.self.invariant.ends.tied.taken in
    subst (λ (d : EndsHome). (rest : List (List ℕ)) × (whole_of d.sender.put ≡ whole_of d.receiver.taken ++ rest)) c.self.view_is (whole_front _ _ t.0 t.1)
