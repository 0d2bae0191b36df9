use Rattle.uses_table.proofs.replacing.swap_in.Goals as goal

pub ask_in-before-requires-clause-turn : goal.ask_in-before-requires-clause-turn
ask_in-before-requires-clause-turn c = (c.requires.turn.0, c.ask_in-found.ensures.turn _ c.requires.turn.1)
