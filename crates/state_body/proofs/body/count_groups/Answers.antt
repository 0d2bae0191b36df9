use Rattle.std.proofs.Common.{refl}
use Rattle.state_body.proofs.body.count_groups.Goals as goal

pub returns-in-Err-clause-written : goal.returns-in-Err-clause-written
returns-in-Err-clause-written c = c.in-Err.ensures.written

pub returns-in-Err-clause-refused : goal.returns-in-Err-clause-refused
returns-in-Err-clause-refused c = record { count = c.in-Err.front; stops = c.in-Err.ensures.stops; number_is = refl }
