use Rattle.std.proofs.Common.{Some, None, sym, subst}
use Rattle.par_barrier.specs.declared.history.BarrierCall.TheVariants.{Detach}
use Rattle.c_barrier.specs.Tries.{Tries}
use Rattle.c_barrier.specs.declared.shared.Share.{Share}
use Rattle.c_barrier.proofs.Handles.{closes, stays}
use Rattle.c_barrier.proofs.handle.Handle.try_close.Goals as goal

pub returns-in-Some-try_call : goal.returns-in-Some-try_call
returns-in-Some-try_call c =
    let t = c.try_call.new.self in
    closes c.args.self.now.value c.take.new.self.value c.in-Some.caller.value t c.in-Some-try_call.field-0 (sym c.in-Some.ensures.caller) c.take.ensures.blank
    (subst (λ (s : Share). Tries s t Detach (Some c.in-Some-try_call.field-0)) c.deref_mut.ensures.value c.in-Some-try_call.ensures)

pub returns-in-None : goal.returns-in-None
returns-in-None c =
    let t = c.try_call.new.self in
    stays c.args.self.now.value c.put.new.self.value c.in-Some.caller.value t (sym c.in-Some.ensures.caller) c.put.ensures
    (subst (λ (s : Share). Tries s t Detach None) c.deref_mut.ensures.value c.in-None.ensures)
