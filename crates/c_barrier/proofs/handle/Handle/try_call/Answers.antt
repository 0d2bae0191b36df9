use Rattle.std.proofs.Common.{sym, subst}
use Rattle.c_barrier.specs.Tries.{Tries}
use Rattle.c_barrier.specs.declared.shared.Share.{Share}
use Rattle.c_barrier.proofs.Handles.{makes}
use Rattle.c_barrier.proofs.handle.Handle.try_call.Goals as goal

pub returns : goal.returns
returns c =
    let t = c.try_call-answer.new.self in
    let answer = c.try_call-answer.result in
    makes c.args.self.now.value c.put.new.self.value c.args.call c.args.phase.now c.args.flag.now c.told.new.phase c.told.new.flag c.told.result c.in-Some.caller.value t answer (sym c.in-Some.ensures.caller) c.put.ensures
    (subst (λ (s : Share). Tries s t c.args.call answer) c.deref_mut.ensures.value c.try_call-answer.ensures) c.told.ensures
