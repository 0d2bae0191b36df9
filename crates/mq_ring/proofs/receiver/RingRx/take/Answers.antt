use Rattle.region_words.proofs.Seats.{rests, nothing_copied}
use Rattle.mq_ring.proofs.ReceiverSteps.{take_allows, may_take, take_inside}
use Rattle.mq_ring.proofs.receiver.RingRx.take.Goals as goal

pub load_slot_as-word-requires-clause-inside : goal.load_slot_as-word-requires-clause-inside
load_slot_as-word-requires-clause-inside c =
    take_inside c.self.inside.seat.table_id _ c.place_at-place.result c.self.inside.seat.me _ _ _ _ _ c.self.invariant c.self.view_is c.requires.here c.place_at-place.ensures

pub load_slot_as-word-requires-clause-rests : goal.load_slot_as-word-requires-clause-rests
load_slot_as-word-requires-clause-rests c = rests c.self.inside.seat.me _ c.self.invariant.receives

pub load_slot_as-word-requires-clause-may : goal.load_slot_as-word-requires-clause-may
load_slot_as-word-requires-clause-may c = may_take c.self.inside.seat.table_id c.place_at-place.result c.self.inside.seat.me _ _ _ _ _ c.self.invariant c.self.view_is c.requires.ready c.place_at-place.ensures

pub load_slot_as-word-requires-clause-fresh : goal.load_slot_as-word-requires-clause-fresh
load_slot_as-word-requires-clause-fresh c = nothing_copied c.self.inside.seat.me _ c.place_at-place.result c.self.invariant.receives

pub load_slot_as-word-requires-clause-allowed : goal.load_slot_as-word-requires-clause-allowed
load_slot_as-word-requires-clause-allowed c = λ x.
    take_allows c.self.inside.seat.table_id _ c.self.inside.seat.id c.place_at-place.result x c.self.inside.seat.me _ _ _ _ _ c.self.invariant c.self.view_is c.requires.here c.requires.stays c.requires.ready c.place_at-place.ensures
