use Rattle.region_words.proofs.Frozens.{share_asks}
use Rattle.region_words.proofs.frozen.Frozen.share.Goals as goal

pub split_as-requires-clause-allowed : goal.split_as-requires-clause-allowed
split_as-requires-clause-allowed c = share_asks c.self.inside.seat.table_id _ c.self.inside.seat.id c.self.inside.seat.me c.self.invariant
