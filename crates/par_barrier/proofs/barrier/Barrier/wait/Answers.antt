use Rattle.std.proofs.Common.{◌∙◌, List, Ok, replicate, suc, refl, ap, subst}
use Rattle.std.specs.Prelude.{Result}
use Rattle.par_barrier.specs.declared.answers.Arrival.{Arrival}
use Rattle.par_barrier.specs.declared.answers.BarrierAnswer.{BarrierAnswer}
use Rattle.par_barrier.specs.declared.history.BarrierCall.{BarrierCall}
use Rattle.par_barrier.specs.declared.history.BarrierReply.{BarrierReply}
use Rattle.par_barrier.specs.declared.history.BarrierCall.TheVariants.{Look}
use Rattle.par_barrier.specs.declared.history.BarrierReply.TheVariants.{Waiting, Released}
use Rattle.par_barrier.specs.Shown.{Called, CalledAll, arrival_reply, refusal_reply}
use Rattle.par_barrier.proofs.Calls.{one_more_of, still, then_call}
use Rattle.par_barrier.proofs.barrier.Barrier.wait.Goals as goal

pub loop-init : goal.loop-init
loop-init g c = record { can_next = tt; finite = tt; own = c.requires.own; number = refl; looked = (0, (refl, refl)) }

pub loop-preserved : goal.loop-preserved
loop-preserved g c =
    let i = c.loop.invariant in
    let called : Called c.loop.pass c.look.new.pass Look Waiting = subst (λ (r : Result Arrival BarrierAnswer). Called c.loop.pass c.look.new.pass Look (arrival_reply r)) (c.in-Ok-Waiting.is ∙ ap (λ (a : Arrival). Ok a) c.in-Ok-Waiting.field-0-is) c.look.ensures.called in
    let n = c.await_news.ensures in
    record {
      can_next = tt;
      finite = tt;
      own = n.own.0;
      number = n.own.1 ∙ (c.look.ensures.own.1 ∙ i.number);
      looked = (suc i.looked.0, still c.args.pass.now c.look.new.pass (record { pass = c.await_news.new.pass }) (replicate (suc i.looked.0) (Look, Waiting)) (n.seen 0) (n.mine 0) (subst (λ (calls : List (BarrierCall × BarrierReply)). CalledAll c.args.pass.now c.look.new.pass calls) (one_more_of i.looked.0 (Look, Waiting)) (then_call c.args.pass.now c.loop.pass c.look.new.pass (replicate i.looked.0 (Look, Waiting)) Look Waiting i.looked.1 i.number called)));
    }

pub returns-in-Ok-Released-clause-called : goal.returns-in-Ok-Released-clause-called
returns-in-Ok-Released-clause-called g c =
    let i = c.loop.invariant in
    let reply = Released c.in-Ok-Released.phase c.in-Ok-Released.elected in
    let called : Called c.loop.pass c.look.new.pass Look reply = subst (λ (r : Result Arrival BarrierAnswer). Called c.loop.pass c.look.new.pass Look (arrival_reply r)) (c.in-Ok-Released.is ∙ ap (λ (a : Arrival). Ok a) c.in-Ok-Released.field-0-is) c.look.ensures.called in
    (i.looked.0, then_call c.args.pass.now c.loop.pass c.look.new.pass (replicate i.looked.0 (Look, Waiting)) Look reply i.looked.1 i.number called)

pub returns-in-Err-clause-called : goal.returns-in-Err-clause-called
returns-in-Err-clause-called g c =
    let i = c.loop.invariant in
    let reply = refusal_reply c.in-Err.why in
    let called : Called c.loop.pass c.look.new.pass Look reply = subst (λ (r : Result Arrival BarrierAnswer). Called c.loop.pass c.look.new.pass Look (arrival_reply r)) c.in-Err.is c.look.ensures.called in
    (i.looked.0, then_call c.args.pass.now c.loop.pass c.look.new.pass (replicate i.looked.0 (Look, Waiting)) Look reply i.looked.1 i.number called)
