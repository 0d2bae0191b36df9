use Rattle.std.proofs.Common.{◌∙◌, ap}
use Rattle.mq_ring.specs.Ends.{SendingEnd}
use Rattle.gather_merge.proofs.Ends.{ends_finish}
use Rattle.gather_merge.proofs.working.finish.Goals as goal

pub returns-clause-end : goal.returns-clause-end
returns-clause-end g c =
    ends_finish c.args.list.now c.args.errors.now.end c.args.tuples.now.end c.send_rows.new.tuples.end c.end_in_order.new.errors.end c.end_in_order.new.tuples.end c.end_in_order.result c.if-not-send_rows.ensures.sent
    (ap (λ (s : SendingEnd). s.end) c.end_in_order.ensures.tuples) c.end_in_order.ensures.end

pub returns-clause-queues : goal.returns-clause-queues
returns-clause-queues g c =
    let sent = c.if-not-send_rows.ensures.sent in
    record {
      errors_ring = c.end_in_order.ensures.ring;
      errors_stays = c.end_in_order.ensures.stays;
      tuples_ring = ap (λ (s : SendingEnd). s.end.ring) c.end_in_order.ensures.tuples ∙ sent.ring;
      tuples_stays = ap (λ (s : SendingEnd). s.end.gone) c.end_in_order.ensures.tuples ∙ sent.stays;
    }
