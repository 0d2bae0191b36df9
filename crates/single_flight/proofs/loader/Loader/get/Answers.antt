use Rattle.std.proofs.Common.{◌∙◌, refl, sym}
use Rattle.single_flight.proofs.Told.{if_failed, turned_busy, turned_failed, turned_holds, turned_load, turned_none, turned_value}
use Rattle.single_flight.proofs.Uses.{one_question, then_asked}
use Rattle.single_flight.proofs.loader.Loader.get.Goals as goal

pub returns-in-Value-clause-asked : goal.returns-in-Value-clause-asked
returns-in-Value-clause-asked g c = one_question _ _ _ _ _ c.in-Value.ensures.called refl

pub returns-in-Value-clause-load : goal.returns-in-Value-clause-load
returns-in-Value-clause-load g c = turned_load c.in-Value.ensures.turned ∙ c.requires.free

pub returns-in-Value-clause-value : goal.returns-in-Value-clause-value
returns-in-Value-clause-value g c = turned_value c.in-Value.ensures.turned

pub returns-in-Value-clause-holds : goal.returns-in-Value-clause-holds
returns-in-Value-clause-holds g c = turned_holds c.in-Value.ensures.turned

pub returns-in-Yours-clause-asked : goal.returns-in-Yours-clause-asked
returns-in-Yours-clause-asked g c = one_question _ _ _ _ _ c.in-Yours.ensures.called refl

pub returns-in-Yours-clause-load : goal.returns-in-Yours-clause-load
returns-in-Yours-clause-load g c = turned_load c.in-Yours.ensures.turned

pub returns-in-Yours-clause-key : goal.returns-in-Yours-clause-key
returns-in-Yours-clause-key g c = ((c.requires.key, turned_load c.in-Yours.ensures.turned), refl)

pub returns-in-Yours-clause-none : goal.returns-in-Yours-clause-none
returns-in-Yours-clause-none g c = turned_none c.in-Yours.ensures.turned

pub wait-requires-clause-free : goal.wait-requires-clause-free
wait-requires-clause-free g c κs within = turned_load c.in-Busy.ensures.turned ∙ c.requires.free

pub wait-requires-clause-loading : goal.wait-requires-clause-loading
wait-requires-clause-loading g c κs within = turned_busy c.in-Busy.ensures.turned

pub returns-in-Busy-clause-asked : goal.returns-in-Busy-clause-asked
returns-in-Busy-clause-asked g c = then_asked _ _ _ _ (one_question _ _ _ _ _ c.in-Busy.ensures.called refl) c.wait.ensures.asked

pub returns-in-Busy-clause-load : goal.returns-in-Busy-clause-load
returns-in-Busy-clause-load g c = c.wait.ensures.load.0 ∙ sym c.wait.ensures.load.1

pub returns-in-Busy-clause-failed : goal.returns-in-Busy-clause-failed
returns-in-Busy-clause-failed g c = if_failed c.wait.result (turned_failed c.in-Busy.ensures.turned _) c.wait.ensures.failed
