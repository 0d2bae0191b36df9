use Rattle.uses_book.proofs.trades.give_out.Goals as goal

pub scatter-requires-clause-tokens : goal.scatter-requires-clause-tokens
scatter-requires-clause-tokens g c κs within = λ sign is. c.rotate.ensures.each sign (c.requires.parts sign is)
