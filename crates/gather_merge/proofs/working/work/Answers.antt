use Rattle.std.proofs.Common.{subst, sym}
use Rattle.mq_ring.specs.Ends.{SendingEnd}
use Rattle.ring_rule.specs.Ends.{publishes, sender_leaves}
use Rattle.scan_claim.specs.Shown.{blocks_of, draws_of}
use Rattle.worker_run.specs.Ended.{sends_of}
use Rattle.gather_merge.specs.Ended.{HasEnded}
use Rattle.gather_merge.proofs.working.work.Goals as goal

pub returns-clause-ended : goal.returns-clause-ended
returns-clause-ended g c =
    let e = c.work_rows-end.new.errors.end in
    let draws = draws_of c.work_rows-end.new.claim in
    let blocks = blocks_of c.args.job.now.claims.now in
    let end = c.work_rows-end.result in
    let q = c.work_rows-end.ensures.hands.queues in
    subst (λ (s : SendingEnd). HasEnded c.args.job.now.plan.now c.args.job.now.rows.now blocks draws (sends_of s.end c.detach.new.self.end) end) (sym (c.detach-2.ensures.first q.errors_stays))
    (subst (λ (s : SendingEnd). HasEnded c.args.job.now.plan.now c.args.job.now.rows.now blocks draws (sends_of (sender_leaves (publishes e)) s.end) end) (sym (c.detach.ensures.first q.tuples_stays)) c.work_rows-end.ensures.ended)
