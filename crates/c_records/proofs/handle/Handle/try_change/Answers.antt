use Rattle.std.proofs.Common.{sym, subst}
use Rattle.c_records.specs.Tries.{Tries}
use Rattle.c_records.specs.declared.shared.Share.{Share}
use Rattle.c_records.proofs.Handles.{changes}
use Rattle.c_records.proofs.handle.Handle.try_change.Goals as goal

pub returns : goal.returns
returns c =
    let t = c.try_change-answer.new.self in
    let answer = c.try_change-answer.result in
    changes c.args.self.now.value c.put.new.self.value c.args.key c.args.call c.args.value.now c.told.new.value c.told.result c.in-Some.caller.value t answer (sym c.in-Some.ensures.caller) c.put.ensures
    (subst (λ (s : Share). Tries s t c.args.key c.args.call answer) c.deref_mut.ensures.value c.try_change-answer.ensures) c.told.ensures
