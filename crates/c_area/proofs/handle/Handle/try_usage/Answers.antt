use Rattle.std.proofs.Common.{Option, sym, subst}
use Rattle.c_area.specs.Calls.{Looks}
use Rattle.c_area.specs.Tries as try
use Rattle.c_area.specs.declared.shared.Share.{Share}
use Rattle.c_area.proofs.Handles.{of_taken}
use Rattle.c_area.proofs.handle.Handle.try_usage.Goals as goal

pub returns : goal.returns
returns c =
    let t = c.try_usage-answer.new.self in
    let answer = c.try_usage-answer.result in
    of_taken (λ (o : Option Share). Looks o c.put.new.self.value c.args.used.now c.args.largest.now c.told_usage.new.used c.told_usage.new.largest c.told_usage.result) c.args.self.now.value c.in-Some.caller.value (sym c.in-Some.ensures.caller)
    (t, answer, c.put.ensures, subst (λ (s : Share). try.Looks s t answer) c.deref_mut.ensures.value c.try_usage-answer.ensures, c.told_usage.ensures)
