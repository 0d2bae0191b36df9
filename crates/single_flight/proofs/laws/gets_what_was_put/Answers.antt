use Rattle.single_flight.proofs.Flights as flights
use Rattle.single_flight.proofs.laws.gets_what_was_put.Goals as goal

pub returns : goal.returns
returns g c = flights.gets_what_was_put g.row.V.Denot
