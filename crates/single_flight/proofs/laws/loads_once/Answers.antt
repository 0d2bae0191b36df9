use Rattle.single_flight.proofs.Flights as flights
use Rattle.single_flight.proofs.laws.loads_once.Goals as goal

pub returns : goal.returns
returns g c = flights.loads_once g.row.V.Denot
