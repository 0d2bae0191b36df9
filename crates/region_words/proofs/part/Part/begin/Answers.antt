use Rattle.region_words.proofs.Parts.{begin_asks}
use Rattle.region_words.proofs.part.Part.begin.Goals as goal

pub load_as-requires-clause-allowed : goal.load_as-requires-clause-allowed
load_as-requires-clause-allowed g c = begin_asks c.self.inside.seat.table_id _ _ c.self.inside.seat.id g.J.Range.from c.self.inside.seat.me c.self.invariant
