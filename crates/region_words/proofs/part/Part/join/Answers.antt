use Rattle.std.proofs.Common.{sym, ◌∙◌}
use Rattle.region_words.proofs.Parts.{join_asks, same_table, join_load_asks, joined}
use Rattle.region_words.proofs.part.Part.join.Goals as goal

pub join_as-requires-clause-allowed : goal.join_as-requires-clause-allowed
join_as-requires-clause-allowed c =
    join_asks c.self.inside.seat.table_id c.other.inside.seat.table_id _ c.self.inside.seat.id c.other.inside.seat.id c.self.inside.seat.me c.other.inside.seat.me c.self.invariant c.other.invariant

pub load_as-requires-clause-allowed : goal.load_as-requires-clause-allowed
load_as-requires-clause-allowed c =
    let same = same_table c.self.inside.seat.table_id _ _ _ c.self.view_is c.requires.here in
    (join_load_asks c.self.inside.seat.table_id _ c.join_as.new.seat.id c.self.inside.seat.me c.other.inside.seat.me c.join_as.new.seat.me c.other.inside.seat.table_id same c.self.invariant c.other.invariant c.join_as.ensures.both).1

pub invariant_of-self : goal.invariant_of-self
invariant_of-self c =
    let same = same_table c.self.inside.seat.table_id _ _ _ c.self.view_is c.requires.here in
    let other = same_table c.other.inside.seat.table_id _ _ _ c.other.view_is c.requires.other_here in
    (joined _ _ _ _ _ _ _ c.self.invariant c.other.invariant (other ∙ sym same) (c.load_as.ensures.seat.0 ∙ c.join_as.ensures.seat.0) c.join_as.ensures.both c.load_as.ensures.told).0
