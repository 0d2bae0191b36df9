use Rattle.std.proofs.Common.{◌∙◌, ap}
use Rattle.agg_table.specs.Shown.{use_in}
use Rattle.mq_ring.specs.Ends.{SendingEnd}
use Rattle.worker_run.proofs.Saying.{ends_finish, passed_open}
use Rattle.worker_run.proofs.passing.finish.Goals as goal

pub returns-clause-end : goal.returns-clause-end
returns-clause-end g c =
    ends_finish c.args.slots (use_in c.args.seat.now) (use_in c.pass_all.new.seat) c.args.groups.now c.pass_all.new.groups c.args.errors.now.end c.args.tuples.now.end c.pass_all.new.tuples.end c.end_in_order.new.errors.end c.end_in_order.new.tuples.end c.end_in_order.result c.if-not-pass_all.ensures.passed
    (ap (λ (s : SendingEnd). s.end) c.end_in_order.ensures.tuples) c.end_in_order.ensures.end

pub returns-clause-queues : goal.returns-clause-queues
returns-clause-queues g c =
    let queue = passed_open c.args.slots (use_in c.args.seat.now) (use_in c.pass_all.new.seat) c.args.groups.now c.pass_all.new.groups c.args.tuples.now.end c.pass_all.new.tuples.end c.if-not-pass_all.ensures.passed in
    record {
      errors_ring = c.end_in_order.ensures.ring;
      errors_stays = c.end_in_order.ensures.stays;
      tuples_ring = ap (λ (s : SendingEnd). s.end.ring) c.end_in_order.ensures.tuples ∙ queue.0;
      tuples_stays = ap (λ (s : SendingEnd). s.end.gone) c.end_in_order.ensures.tuples ∙ queue.1;
    }

pub end_in_order-requires-clause-stays : goal.end_in_order-requires-clause-stays
end_in_order-requires-clause-stays g c =
    (passed_open c.args.slots (use_in c.args.seat.now) (use_in c.pass_all.new.seat) c.args.groups.now c.pass_all.new.groups c.args.tuples.now.end c.pass_all.new.tuples.end c.if-not-pass_all.ensures.passed).1
