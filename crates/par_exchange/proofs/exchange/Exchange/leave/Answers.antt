use Rattle.std.proofs.Common.{refl}
use Rattle.par_exchange.proofs.Fits.{turned_absent, turned_all, turned_brings, turned_collected, turned_count, turned_leaves, turned_makes, turned_stage}
use Rattle.par_exchange.proofs.exchange.Exchange.leave.Goals as goal

pub returns-in-Left-false-clause-called : goal.returns-in-Left-false-clause-called
returns-in-Left-false-clause-called g c = (let called = rw c.in-Left-false.field-0-test at (turned_makes (c.in-Left-false.ensures.turned c.requires.exchange.0 c.requires.exchange.1)) in called)

pub returns-in-Left-false-clause-stage : goal.returns-in-Left-false-clause-stage
returns-in-Left-false-clause-stage g c = turned_stage (c.in-Left-false.ensures.turned c.requires.exchange.0 c.requires.exchange.1)

pub returns-in-Left-true-clause-called : goal.returns-in-Left-true-clause-called
returns-in-Left-true-clause-called g c = (let called = rw c.in-Left-true.field-0-test at (turned_makes (c.in-Left-true.ensures.turned c.requires.exchange.0 c.requires.exchange.1)) in called)

pub returns-in-Left-true-clause-stage : goal.returns-in-Left-true-clause-stage
returns-in-Left-true-clause-stage g c = turned_stage (c.in-Left-true.ensures.turned c.requires.exchange.0 c.requires.exchange.1)

pub returns-in-Leaving-clause-called : goal.returns-in-Leaving-clause-called
returns-in-Leaving-clause-called g c = turned_makes (c.in-Leaving.ensures.turned c.requires.exchange.0 c.requires.exchange.1)

pub returns-in-Leaving-clause-stage : goal.returns-in-Leaving-clause-stage
returns-in-Leaving-clause-stage g c = turned_stage (c.in-Leaving.ensures.turned c.requires.exchange.0 c.requires.exchange.1)

pub returns-in-Leaving-clause-one_each : goal.returns-in-Leaving-clause-one_each
returns-in-Leaving-clause-one_each g c = turned_count (c.in-Leaving.ensures.turned c.requires.exchange.0 c.requires.exchange.1) c.in-Leaving.places.items refl

pub returns-in-Leaving-clause-collected : goal.returns-in-Leaving-clause-collected
returns-in-Leaving-clause-collected g c = turned_collected (c.in-Leaving.ensures.turned c.requires.exchange.0 c.requires.exchange.1) c.in-Leaving.places.items refl

pub returns-in-Leaving-clause-all : goal.returns-in-Leaving-clause-all
returns-in-Leaving-clause-all g c = turned_all (c.in-Leaving.ensures.turned c.requires.exchange.0 c.requires.exchange.1) c.in-Leaving.places.items refl

pub returns-in-Leaving-clause-tokens : goal.returns-in-Leaving-clause-tokens
returns-in-Leaving-clause-tokens g c = λ sign is. turned_brings (c.in-Leaving.ensures.turned sign is) c.in-Leaving.places.items refl

pub returns-in-Leaving-clause-absent : goal.returns-in-Leaving-clause-absent
returns-in-Leaving-clause-absent g c = λ sign is. turned_absent (c.in-Leaving.ensures.turned sign is) c.in-Leaving.places.items refl

pub returns-in-Busy-clause-called : goal.returns-in-Busy-clause-called
returns-in-Busy-clause-called g c = turned_makes (c.in-Busy.ensures.turned c.requires.exchange.0 c.requires.exchange.1)

pub returns-in-Busy-clause-stage : goal.returns-in-Busy-clause-stage
returns-in-Busy-clause-stage g c = turned_stage (c.in-Busy.ensures.turned c.requires.exchange.0 c.requires.exchange.1)

pub returns-in-Busy-clause-free : goal.returns-in-Busy-clause-free
returns-in-Busy-clause-free g c = λ free. absurd ((turned_leaves (c.in-Busy.ensures.turned c.requires.exchange.0 c.requires.exchange.1) refl free).0 refl)

pub returns-in-Gone-clause-called : goal.returns-in-Gone-clause-called
returns-in-Gone-clause-called g c = turned_makes (c.in-Gone.ensures.turned c.requires.exchange.0 c.requires.exchange.1)

pub returns-in-Gone-clause-stage : goal.returns-in-Gone-clause-stage
returns-in-Gone-clause-stage g c = turned_stage (c.in-Gone.ensures.turned c.requires.exchange.0 c.requires.exchange.1)

pub returns-in-Gone-clause-free : goal.returns-in-Gone-clause-free
returns-in-Gone-clause-free g c = λ free. absurd ((turned_leaves (c.in-Gone.ensures.turned c.requires.exchange.0 c.requires.exchange.1) refl free).1 refl)
