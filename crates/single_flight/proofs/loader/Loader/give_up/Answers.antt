use Rattle.single_flight.proofs.Told.{turned_fail, turned_load}
use Rattle.single_flight.proofs.loader.Loader.give_up.Goals as goal

pub unreachable-requires : goal.unreachable-requires
unreachable-requires g c = c.in_default.not-Done (turned_fail c.call_with_news.ensures.turned c.args.load.number c.requires.load.1)

pub returns-clause-load : goal.returns-clause-load
returns-clause-load g c = turned_load c.in-Done.ensures.turned
