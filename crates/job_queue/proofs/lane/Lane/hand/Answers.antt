use Rattle.std.proofs.Common.{◌≡◌, ◌∙◌, ◌<◌, ◌^◌, ◌++◌, ◌∷◌, [], ℕ, List, ap, sym, arith}
use Rattle.std.proofs.lemmas.List.{append-nil}
use Rattle.mq_ring.specs.Ends.{SendingEnd}
use Rattle.job_queue.specs.Lanes.{jobs_in}
use Rattle.job_queue.proofs.Queues.{sent_job}
use Rattle.job_queue.proofs.lane.Lane.hand.Goals as goal

-- the job that was sent is the last of the lane's and the last in the queue
pub returns-clause-lane : goal.returns-clause-lane
returns-clause-lane g c =
    let e = c.in-Sent.ensures in
    let low : c.args.number < 2 ^ 64 = omega arith in
    let put = sent_job c.args.self.now.sender.end c.send.new.self.end _ c.args.number low c.to_le_bytes.ensures e.answer in
    let jobs : c.push.new.self.items ≡ jobs_in c.send.new.self.end.put = c.in_ok-push.ensures.items ∙ ap (λ (l : List ℕ). l ++ c.args.number ∷ []) (c.requires.1.sent c.if-not-self.false) ∙ sym put in (
      record { here = ap (λ (s : SendingEnd). s.region) e.kept ∙ c.requires.0.here; jobs = ([], jobs ∙ sym (append-nil (jobs_in c.send.new.self.end.put))) },
      record { stays = λ _. e.stays.stays; fresh = λ _. e.answer.2.left; sent = λ _. jobs },
    )
