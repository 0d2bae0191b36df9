use Rattle.std.proofs.Common.{ap, sym, ◌∙◌, arith}
use Rattle.mq_ring.specs.Ends.{SendingEnd, ReceivingEnd}
use Rattle.mq_ring.proofs.Distances.{in_region}
use Rattle.mq_ring.proofs.Meetings.{join_allows, joined, load_allows}
use Rattle.mq_ring.proofs.done.home.Goals as goal

pub join_as-requires-clause-allowed : goal.join_as-requires-clause-allowed
join_as-requires-clause-allowed c =
    let ring = ap (λ (x : SendingEnd). x.end.ring) c.tx.view_is ∙ c.requires.one_ring ∙ sym (ap (λ (x : ReceivingEnd). x.end.ring) c.rx.view_is) in
    join_allows _ c.tx.inside.seat.id c.rx.inside.seat.id c.tx.inside.seat.me c.rx.inside.seat.me _ _ _ _ c.tx.invariant.0.sends c.rx.invariant.receives ring

pub load_as-requires-clause-allowed : goal.load_as-requires-clause-allowed
load_as-requires-clause-allowed c =
    let same = ap (λ (x : SendingEnd). x.region) c.tx.view_is ∙ c.requires.here in
    let more = in_region c.tx.inside.seat.table_id _ _ _ _ _ 0 c.tx.invariant.0.lies same (omega arith) in
    load_allows _ _ c.join_as.new.seat.id c.join_as.new.seat.me _ _ _ more (joined c.tx.inside.seat.me c.rx.inside.seat.me c.join_as.new.seat.me _ _ _ _ c.tx.invariant.0.sends c.rx.invariant.receives c.join_as.ensures.both)
