use Rattle.std.proofs.Common.{subst, sym}
use Rattle.mq_ring.specs.Ends.{SendingEnd}
use Rattle.par_model.specs.Columns.{HasColumns}
use Rattle.par_model.specs.Plan.{Plan}
use Rattle.partial_agg.specs.Rows.{header_width}
use Rattle.ring_rule.specs.Ends.{publishes, sender_leaves}
use Rattle.scan_claim.specs.Shown.{blocks_of, draws_of}
use Rattle.agg_table.specs.Shown.{use_in}
use Rattle.worker_run.specs.Ended.{sends_of}
use Rattle.worker_run.specs.Tabled.{EndsWith}
use Rattle.worker_run.proofs.work.Goals as goal

pub work_all-end-requires-clause-job : goal.work_all-end-requires-clause-job
work_all-end-requires-clause-job g c = record {
  blocks = c.requires.blocks;
  columns = subst (λ (p : Plan). HasColumns p (header_width c.args.rows.now)) (sym (c.plan_in-plan.ensures.plan c.requires.plan.0 c.requires.plan.1)) c.requires.plan.2;
}

pub work_all-end-requires-clause-hands : goal.work_all-end-requires-clause-hands
work_all-end-requires-clause-hands g c = record {
  hands = record { seat = c.requires.seat; errors_here = c.requires.errors_here; tuples_here = c.requires.here };
  fresh = c.requires.fresh;
  errors_fresh = c.requires.errors_fresh;
  tuples_fresh = c.requires.tuples_fresh;
}

pub returns-clause-ended : goal.returns-clause-ended
returns-clause-ended g c plan has =
    let e = c.work_all-end.new.errors.end in
    let t = c.work_all-end.new.tuples.end in
    let draws = draws_of c.work_all-end.new.claim in
    let blocks = blocks_of c.args.claims.now in
    let end = c.work_all-end.result in
    let used = use_in c.work_all-end.new.seat in
    let q = c.work_all-end.ensures.hands.queues in
    subst (λ (p : Plan). EndsWith p c.args.rows.now blocks draws used (sends_of c.detach-2.new.self.end c.detach.new.self.end) end) (c.plan_in-plan.ensures.plan plan has)
    (subst (λ (s : SendingEnd). EndsWith c.plan_in-plan.result c.args.rows.now blocks draws used (sends_of s.end c.detach.new.self.end) end) (sym (c.detach-2.ensures.first q.errors_stays))
    (subst (λ (s : SendingEnd). EndsWith c.plan_in-plan.result c.args.rows.now blocks draws used (sends_of (sender_leaves (publishes e)) s.end) end) (sym (c.detach.ensures.first q.tuples_stays))
    c.work_all-end.ensures.ended))
