use Rattle.std.proofs.Common.{refl, subst, sym}
use Rattle.par_barrier.specs.Shown.{Called}
use Rattle.par_barrier.specs.declared.history.BarrierReply.TheVariants as reply
use Rattle.shell_sync.specs.Barriers.{call_of}
use Rattle.shell_lines.specs.declared.barriers.PartyCall.{PartyCall}
use Rattle.shell_sync.proofs.barriers.call_by.Goals as goal

pub returns-in-Ok-clause-called : goal.returns-in-Ok-clause-called
returns-in-Ok-clause-called g c =
    let called = subst (λ (k : PartyCall). Called c.args.pass.now c.attach.new.pass (call_of k) (reply.Attached c.in-Ok.phase)) (sym c.in-Attach.is) c.in-Ok.ensures.called in
    (reply.Attached c.in-Ok.phase, called, refl)

pub returns-in-Ok-detach-clause-called : goal.returns-in-Ok-detach-clause-called
returns-in-Ok-detach-clause-called g c =
    let left = c.in-Ok-detach.left in
    let called = subst (λ (k : PartyCall). Called c.args.pass.now c.detach.new.pass (call_of k) (reply.Left left.phase left.last)) (sym c.in-Detach.is) c.in-Ok-detach.ensures.called in
    (reply.Left left.phase left.last, called, c.from-in-Ok-detach.ensures)
