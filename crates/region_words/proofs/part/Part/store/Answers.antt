use Rattle.std.proofs.Common.{arith}
use Rattle.region_words.proofs.Seats.{rests, nothing_copied}
use Rattle.region_words.proofs.Parts.{word_inside, may_take, store_asks, stored, has_here}
use Rattle.region_words.proofs.part.Part.store.Goals as goal

pub store_slot_as-requires-clause-inside : goal.store_slot_as-requires-clause-inside
store_slot_as-requires-clause-inside c = word_inside c.self.inside.seat.table_id _ c.args.at c.self.inside.seat.me _ c.self.invariant c.self.view_is c.requires.here c.requires.owns

pub store_slot_as-requires-clause-rests : goal.store_slot_as-requires-clause-rests
store_slot_as-requires-clause-rests c = rests c.self.inside.seat.me _ c.self.invariant.owns

pub store_slot_as-requires-clause-may : goal.store_slot_as-requires-clause-may
store_slot_as-requires-clause-may c = may_take c.self.inside.seat.table_id c.args.at c.self.inside.seat.me _ c.self.invariant c.self.view_is c.requires.owns

pub store_slot_as-requires-clause-fresh : goal.store_slot_as-requires-clause-fresh
store_slot_as-requires-clause-fresh c = nothing_copied c.self.inside.seat.me _ c.args.at c.self.invariant.owns

pub store_slot_as-requires-clause-allowed : goal.store_slot_as-requires-clause-allowed
store_slot_as-requires-clause-allowed c = λ x.
    store_asks c.self.inside.seat.table_id _ c.self.inside.seat.id c.args.at x c.args.value c.self.inside.seat.me _ c.self.invariant c.self.view_is c.requires.here c.requires.owns (omega (arith, c.ranges.value))

pub invariant_of-self : goal.invariant_of-self
invariant_of-self c =
    (stored _ _ c.args.at c.args.value _ _ c.self.invariant (has_here _ _ _ c.args.at c.self.view_is c.requires.owns) c.store_slot_as.ensures.seat.0 c.store_slot_as.ensures.told).0
