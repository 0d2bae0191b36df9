use Rattle.std.proofs.Common.{sym, subst}
use Rattle.c_records.specs.Tries.{Tries}
use Rattle.c_records.specs.declared.shared.Share.{Share}
use Rattle.c_records.specs.declared.value.RecordCall.TheVariants.{Get}
use Rattle.c_records.proofs.Handles.{changes}
use Rattle.c_records.proofs.handle.Handle.try_get.Goals as goal

pub returns : goal.returns
returns c =
    let t = c.try_get-answer.new.self in
    let answer = c.try_get-answer.result in
    changes c.args.self.now.value c.put.new.self.value c.args.key Get c.args.value.now c.told.new.value c.told.result c.in-Some.caller.value t answer (sym c.in-Some.ensures.caller) c.put.ensures
    (subst (λ (s : Share). Tries s t c.args.key Get answer) c.deref_mut.ensures.value c.try_get-answer.ensures) c.told.ensures
