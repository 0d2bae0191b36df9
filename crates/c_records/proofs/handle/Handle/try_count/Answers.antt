use Rattle.std.proofs.Common.{sym, subst}
use Rattle.c_records.specs.Looks.{Counts}
use Rattle.c_records.specs.declared.shared.Share.{Share}
use Rattle.c_records.proofs.Handles.{counts}
use Rattle.c_records.proofs.handle.Handle.try_count.Goals as goal

pub returns : goal.returns
returns c =
    let t = c.try_count-answer.new.self in
    let answer = c.try_count-answer.result in
    counts c.args.self.now.value c.put.new.self.value c.args.partition c.args.keys.now c.told_count.new.keys c.told_count.result c.in-Some.caller.value t answer (sym c.in-Some.ensures.caller) c.put.ensures
    (subst (λ (s : Share). Counts s t c.args.partition answer) c.deref_mut.ensures.value c.try_count-answer.ensures) c.told_count.ensures
