use Rattle.single_flight.proofs.Told.{turned_gone, turned_load}
use Rattle.single_flight.proofs.loader.Loader.remove.Goals as goal

pub returns-in-Done-clause-load : goal.returns-in-Done-clause-load
returns-in-Done-clause-load g c = turned_load c.in-Done.ensures.turned

pub returns-in-Done-clause-none : goal.returns-in-Done-clause-none
returns-in-Done-clause-none g c = turned_gone c.in-Done.ensures.turned

pub returns-in-Refused-clause-load : goal.returns-in-Refused-clause-load
returns-in-Refused-clause-load g c = turned_load c.in-Refused.ensures.turned

pub returns-in-Refused-clause-none : goal.returns-in-Refused-clause-none
returns-in-Refused-clause-none g c = turned_gone c.in-Refused.ensures.turned
