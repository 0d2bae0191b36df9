use Rattle.region_words.proofs.Frozens.{end_share_asks}
use Rattle.region_words.proofs.frozen.Frozen.join.Goals as goal

pub join_as-requires-clause-allowed : goal.join_as-requires-clause-allowed
join_as-requires-clause-allowed c =
    end_share_asks c.self.inside.seat.table_id c.other.inside.seat.table_id _ c.self.inside.seat.id c.other.inside.seat.id c.self.inside.seat.me c.other.inside.seat.me _ _ c.self.invariant c.other.invariant c.self.view_is c.other.view_is c.requires.equal
