use Rattle.single_flight.proofs.Told.{turned_load, turned_put, turned_there}
use Rattle.single_flight.proofs.loader.Loader.put.Goals as goal

pub unreachable-requires : goal.unreachable-requires
unreachable-requires g c = c.in_default.not-Done (turned_put c.call_with_news.ensures.turned c.args.load.number c.requires.load.1)

pub returns-clause-load : goal.returns-clause-load
returns-clause-load g c = turned_load c.in-Done.ensures.turned

pub returns-clause-value : goal.returns-clause-value
returns-clause-value g c = turned_there c.in-Done.ensures.turned
