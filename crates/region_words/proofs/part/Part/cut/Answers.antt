use Rattle.region_words.proofs.Parts.{split_asks, rested, ranged}
use Rattle.region_words.proofs.part.Part.cut.Goals as goal

pub split_as-requires-clause-allowed : goal.split_as-requires-clause-allowed
split_as-requires-clause-allowed g c = split_asks c.self.inside.seat.table_id _ c.self.inside.seat.id g.J.Range.from g.J.Range.len c.self.inside.seat.me c.self.invariant

pub invariant_of-self : goal.invariant_of-self
invariant_of-self g c = (rested _ _ g.J.Range.from g.J.Range.len _ _ c.self.invariant c.split_as.ensures.seat.0 c.split_as.ensures.left).0

pub invariant_of-result : goal.invariant_of-result
invariant_of-result g c = (ranged _ _ g.J.Range.from g.J.Range.len _ _ c.self.invariant c.split_as.ensures.right.0 c.split_as.ensures.right.1).0
