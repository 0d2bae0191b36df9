use Rattle.std.proofs.Common.{refl}
use Rattle.par_exchange.proofs.Fits.{turned_elected, turned_makes, turned_stage}
use Rattle.par_exchange.proofs.exchange.Exchange.scatter.Goals as goal

pub returns-in-Given-clause-called : goal.returns-in-Given-clause-called
returns-in-Given-clause-called g c = turned_makes (c.in-Given.ensures.turned c.requires.exchange.0 c.requires.exchange.1)

pub returns-in-Given-clause-stage : goal.returns-in-Given-clause-stage
returns-in-Given-clause-stage g c = turned_stage (c.in-Given.ensures.turned c.requires.exchange.0 c.requires.exchange.1)

pub returns-in-AllBack-clause-called : goal.returns-in-AllBack-clause-called
returns-in-AllBack-clause-called g c = turned_makes (c.in-AllBack.ensures.turned c.requires.exchange.0 c.requires.exchange.1)

pub returns-in-AllBack-clause-stage : goal.returns-in-AllBack-clause-stage
returns-in-AllBack-clause-stage g c = turned_stage (c.in-AllBack.ensures.turned c.requires.exchange.0 c.requires.exchange.1)

pub returns-in-AllBack-clause-elected : goal.returns-in-AllBack-clause-elected
returns-in-AllBack-clause-elected g c = λ has. absurd (turned_elected (c.in-AllBack.ensures.turned c.requires.exchange.0 c.requires.exchange.1) c.args.places.items refl has refl)
