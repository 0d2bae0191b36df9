use Rattle.std.proofs.Common.{ℕ, ◌+◌, ◌-◌, ◌%◌, length, sym, ap, ◌∙◌}
use Rattle.mq_ring.specs.Ends.{ReceivingEnd}
use Rattle.mq_ring.proofs.ReceiverSteps.{look_allows, found_ready}
use Rattle.mq_ring.proofs.receiver.RingRx.look_written.Goals as goal

pub load_as-found-requires-clause-allowed : goal.load_as-found-requires-clause-allowed
load_as-found-requires-clause-allowed c = look_allows c.self.inside.seat.table_id _ c.self.inside.seat.id c.self.inside.seat.me _ _ _ _ _ c.self.invariant c.self.view_is c.requires.here c.requires.stays

pub returns-clause-ready : goal.returns-clause-ready
returns-clause-ready c =
    let e = ap (λ (x : ReceivingEnd). length x.end.taken) c.self.view_is in
    ap (λ (n : ℕ). (c.load_as-found.result + (18446744073709551616 - c.self.inside.position)) % 18446744073709551616 + n) (sym e)
    ∙ found_ready c.self.inside.seat.table_id c.self.inside.seat.me c.load_as-found.new.seat.me _ _ _ _ c.load_as-found.result c.self.invariant c.load_as-found.ensures.told
