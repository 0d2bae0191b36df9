use Rattle.std.proofs.Common.{refl}
use Rattle.par_exchange.proofs.Fits.{turned_absent, turned_all, turned_brings, turned_collected, turned_count, turned_free, turned_makes, turned_stage}
use Rattle.par_exchange.proofs.exchange.Exchange.gather.Goals as goal

pub returns-in-Waiting-clause-called : goal.returns-in-Waiting-clause-called
returns-in-Waiting-clause-called g c = turned_makes (c.in-Waiting.ensures.turned c.requires.exchange.0 c.requires.exchange.1)

pub returns-in-Waiting-clause-stage : goal.returns-in-Waiting-clause-stage
returns-in-Waiting-clause-stage g c = turned_stage (c.in-Waiting.ensures.turned c.requires.exchange.0 c.requires.exchange.1)

pub returns-in-Collected-clause-called : goal.returns-in-Collected-clause-called
returns-in-Collected-clause-called g c = turned_makes (c.in-Collected.ensures.turned c.requires.exchange.0 c.requires.exchange.1)

pub returns-in-Collected-clause-stage : goal.returns-in-Collected-clause-stage
returns-in-Collected-clause-stage g c = turned_stage (c.in-Collected.ensures.turned c.requires.exchange.0 c.requires.exchange.1)

pub returns-in-Collected-clause-one_each : goal.returns-in-Collected-clause-one_each
returns-in-Collected-clause-one_each g c = turned_count (c.in-Collected.ensures.turned c.requires.exchange.0 c.requires.exchange.1) c.in-Collected.places.items refl

pub returns-in-Collected-clause-collected : goal.returns-in-Collected-clause-collected
returns-in-Collected-clause-collected g c = turned_collected (c.in-Collected.ensures.turned c.requires.exchange.0 c.requires.exchange.1) c.in-Collected.places.items refl

pub returns-in-Collected-clause-all : goal.returns-in-Collected-clause-all
returns-in-Collected-clause-all g c = turned_all (c.in-Collected.ensures.turned c.requires.exchange.0 c.requires.exchange.1) c.in-Collected.places.items refl

pub returns-in-Collected-clause-tokens : goal.returns-in-Collected-clause-tokens
returns-in-Collected-clause-tokens g c = λ sign is. turned_brings (c.in-Collected.ensures.turned sign is) c.in-Collected.places.items refl

pub returns-in-Collected-clause-absent : goal.returns-in-Collected-clause-absent
returns-in-Collected-clause-absent g c = λ sign is. turned_absent (c.in-Collected.ensures.turned sign is) c.in-Collected.places.items refl

pub returns-in-Back-clause-called : goal.returns-in-Back-clause-called
returns-in-Back-clause-called g c = turned_makes (c.in-Back.ensures.turned c.requires.exchange.0 c.requires.exchange.1)

pub returns-in-Back-clause-stage : goal.returns-in-Back-clause-stage
returns-in-Back-clause-stage g c = turned_stage (c.in-Back.ensures.turned c.requires.exchange.0 c.requires.exchange.1)

pub returns-in-Back-clause-free : goal.returns-in-Back-clause-free
returns-in-Back-clause-free g c = λ free. absurd (turned_free (c.in-Back.ensures.turned c.requires.exchange.0 c.requires.exchange.1) c.args.token refl free refl)
