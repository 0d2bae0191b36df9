use Rattle.mq_ring.proofs.Makings.{make_allows}
use Rattle.mq_ring.proofs.making.part_ends.Goals as goal

pub split_as-receiver-requires-clause-allowed : goal.split_as-receiver-requires-clause-allowed
split_as-receiver-requires-clause-allowed g c = make_allows _ c.args.seat.id c.args.seat.me _ g.J.Shape.ring c.requires.owns c.requires.fresh
