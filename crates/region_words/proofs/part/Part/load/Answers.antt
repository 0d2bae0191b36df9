use Rattle.region_words.proofs.Seats.{rests, nothing_copied}
use Rattle.region_words.proofs.Parts.{word_inside, may_take, load_asks}
use Rattle.region_words.proofs.part.Part.load.Goals as goal

pub load_slot_as-requires-clause-inside : goal.load_slot_as-requires-clause-inside
load_slot_as-requires-clause-inside c = word_inside c.self.inside.seat.table_id _ c.args.at c.self.inside.seat.me _ c.self.invariant c.self.view_is c.requires.here c.requires.owns

pub load_slot_as-requires-clause-rests : goal.load_slot_as-requires-clause-rests
load_slot_as-requires-clause-rests c = rests c.self.inside.seat.me _ c.self.invariant.owns

pub load_slot_as-requires-clause-may : goal.load_slot_as-requires-clause-may
load_slot_as-requires-clause-may c = may_take c.self.inside.seat.table_id c.args.at c.self.inside.seat.me _ c.self.invariant c.self.view_is c.requires.owns

pub load_slot_as-requires-clause-fresh : goal.load_slot_as-requires-clause-fresh
load_slot_as-requires-clause-fresh c = nothing_copied c.self.inside.seat.me _ c.args.at c.self.invariant.owns

pub load_slot_as-requires-clause-allowed : goal.load_slot_as-requires-clause-allowed
load_slot_as-requires-clause-allowed c = λ x. load_asks c.self.inside.seat.table_id _ c.self.inside.seat.id c.args.at x c.self.inside.seat.me _ c.self.invariant c.self.view_is c.requires.here c.requires.owns
