use Rattle.std.proofs.Common.{arith, [], ◌∷◌}
use Rattle.uses_book.proofs.crossing.end_two.Goals as goal

pub join-all-requires-clause-joined : goal.join-all-requires-clause-joined
join-all-requires-clause-joined g c κs within = (c.args.one ∷ [], c.new-last.ensures)

pub join-all-requires-clause-before : goal.join-all-requires-clause-before
join-all-requires-clause-before g c κs within = omega (arith, c.new-last.ensures.count, c.requires.callers, c.requires.zero.1)

pub close_joined-requires-clause-joined : goal.close_joined-requires-clause-joined
close_joined-requires-clause-joined g c κs within = (c.args.zero ∷ c.args.one ∷ [], c.join-all.ensures (c.args.one ∷ []) c.new-last.ensures)

pub close_joined-requires-clause-all : goal.close_joined-requires-clause-all
close_joined-requires-clause-all g c κs within = let j = c.join-all.ensures (c.args.one ∷ []) c.new-last.ensures in omega (arith, j.count, c.requires.callers)

pub returns : goal.returns
returns g c = c.close_joined.ensures.ended (c.args.zero ∷ c.args.one ∷ []) (c.join-all.ensures (c.args.one ∷ []) c.new-last.ensures)
