use Rattle.uses_book.proofs.leaving.round.Goals as goal

-- what each party might bring, at the places that the elected got
pub give_back-requires-clause-each : goal.give_back-requires-clause-each
give_back-requires-clause-each g c = (let each = rw c.in-Ok-Elected.field-0-is at c.in-Ok-Elected.ensures.tokens in each c.requires.exchange.0 c.requires.exchange.1)
