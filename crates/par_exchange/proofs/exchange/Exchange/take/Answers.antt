use Rattle.std.proofs.Common.{refl}
use Rattle.par_exchange.proofs.Fits.{turned_gives, turned_makes, turned_stage, turned_taken}
use Rattle.par_exchange.proofs.exchange.Exchange.take.Goals as goal

pub returns-in-Taken-clause-called : goal.returns-in-Taken-clause-called
returns-in-Taken-clause-called g c = turned_makes (c.in-Taken.ensures.turned c.requires.exchange.0 c.requires.exchange.1)

pub returns-in-Taken-clause-stage : goal.returns-in-Taken-clause-stage
returns-in-Taken-clause-stage g c = turned_stage (c.in-Taken.ensures.turned c.requires.exchange.0 c.requires.exchange.1)

pub returns-in-Taken-clause-taken : goal.returns-in-Taken-clause-taken
returns-in-Taken-clause-taken g c = turned_taken (c.in-Taken.ensures.turned c.requires.exchange.0 c.requires.exchange.1) c.in-Taken.token refl

pub returns-in-Taken-clause-token : goal.returns-in-Taken-clause-token
returns-in-Taken-clause-token g c = λ sign is. turned_gives (c.in-Taken.ensures.turned sign is) c.in-Taken.token refl

pub returns-in-Nothing-clause-called : goal.returns-in-Nothing-clause-called
returns-in-Nothing-clause-called g c = turned_makes (c.in-Nothing.ensures.turned c.requires.exchange.0 c.requires.exchange.1)

pub returns-in-Nothing-clause-stage : goal.returns-in-Nothing-clause-stage
returns-in-Nothing-clause-stage g c = turned_stage (c.in-Nothing.ensures.turned c.requires.exchange.0 c.requires.exchange.1)
