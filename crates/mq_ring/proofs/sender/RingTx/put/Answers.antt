use Rattle.std.proofs.Common.{arith}
use Rattle.region_words.proofs.Seats.{rests, nothing_copied}
use Rattle.mq_ring.proofs.SenderSteps.{put_allows, may_put, put_inside}
use Rattle.mq_ring.proofs.sender.RingTx.put.Goals as goal

pub store_slot_as-requires-clause-inside : goal.store_slot_as-requires-clause-inside
store_slot_as-requires-clause-inside c =
    put_inside c.self.inside.seat.table_id _ _ c.place_at-place.result c.self.inside.seat.me _ _ _ _ _ _ _ c.self.invariant.0 c.self.view_is c.requires.here c.place_at-place.ensures

pub store_slot_as-requires-clause-rests : goal.store_slot_as-requires-clause-rests
store_slot_as-requires-clause-rests c = rests c.self.inside.seat.me _ c.self.invariant.0.sends

pub store_slot_as-requires-clause-may : goal.store_slot_as-requires-clause-may
store_slot_as-requires-clause-may c = may_put c.self.inside.seat.table_id _ c.place_at-place.result c.self.inside.seat.me _ _ _ _ _ _ _ c.self.invariant.0 c.self.view_is c.requires.room c.place_at-place.ensures

pub store_slot_as-requires-clause-fresh : goal.store_slot_as-requires-clause-fresh
store_slot_as-requires-clause-fresh c = nothing_copied c.self.inside.seat.me _ c.place_at-place.result c.self.invariant.0.sends

pub store_slot_as-requires-clause-allowed : goal.store_slot_as-requires-clause-allowed
store_slot_as-requires-clause-allowed c = λ x.
    put_allows c.self.inside.seat.table_id _ _ c.self.inside.seat.id c.args.word c.place_at-place.result x c.self.inside.seat.me _ _ _ _ _ _ _ c.self.invariant.0 c.self.view_is c.requires.here
    c.requires.stays c.requires.room c.requires.framed (omega (arith, c.ranges.word)) c.place_at-place.ensures
