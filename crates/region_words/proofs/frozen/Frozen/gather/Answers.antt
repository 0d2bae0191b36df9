use Rattle.std.proofs.Common.{sym, ◌∙◌}
use Rattle.region_words.proofs.Parts.{same_table}
use Rattle.region_words.proofs.Frozens.{gather_asks, gathered}
use Rattle.region_words.proofs.frozen.Frozen.gather.Goals as goal

pub join_as-requires-clause-allowed : goal.join_as-requires-clause-allowed
join_as-requires-clause-allowed c = gather_asks c.self.inside.seat.table_id c.other.inside.seat.table_id _ c.self.inside.seat.id c.other.inside.seat.id c.self.inside.seat.me c.other.inside.seat.me c.self.invariant c.other.invariant

pub invariant_of-self : goal.invariant_of-self
invariant_of-self c =
    let same = same_table c.self.inside.seat.table_id _ _ _ c.self.view_is c.requires.here in
    let other = same_table c.other.inside.seat.table_id _ _ _ c.other.view_is c.requires.other_here in
    (gathered _ _ _ c.self.inside.seat.me c.other.inside.seat.me _ c.self.invariant c.other.invariant (other ∙ sym same) c.join_as.ensures.seat.0 c.join_as.ensures.both).0
