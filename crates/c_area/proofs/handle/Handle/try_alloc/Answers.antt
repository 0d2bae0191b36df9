use Rattle.std.proofs.Common.{Option, sym, subst}
use Rattle.c_area.specs.Calls.{Allocs}
use Rattle.c_area.specs.Tries as try
use Rattle.c_area.specs.declared.shared.Share.{Share}
use Rattle.c_area.proofs.Handles.{of_taken}
use Rattle.c_area.proofs.handle.Handle.try_alloc.Goals as goal

pub returns : goal.returns
returns c =
    let t = c.try_alloc-answer.new.self in
    let answer = c.try_alloc-answer.result in
    of_taken (λ (o : Option Share). Allocs o c.put.new.self.value c.args.wanted c.args.number.now c.args.bytes.now c.told.new.number c.told.new.bytes c.told.result) c.args.self.now.value c.in-Some.caller.value (sym c.in-Some.ensures.caller)
    (t, answer, c.put.ensures, subst (λ (s : Share). try.Allocs s t c.args.wanted answer) c.deref_mut.ensures.value c.try_alloc-answer.ensures, c.told.ensures)
