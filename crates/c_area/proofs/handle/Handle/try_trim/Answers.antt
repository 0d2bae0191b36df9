use Rattle.std.proofs.Common.{Option, sym, subst}
use Rattle.c_area.specs.Calls.{Trims}
use Rattle.c_area.specs.Tries as try
use Rattle.c_area.specs.declared.shared.Share.{Share}
use Rattle.c_area.proofs.Handles.{of_taken}
use Rattle.c_area.proofs.handle.Handle.try_trim.Goals as goal

pub returns : goal.returns
returns c =
    let t = c.try_trim-code.new.self in
    let code = c.try_trim-code.result in
    of_taken (λ (o : Option Share). Trims o c.put.new.self.value c.args.class code) c.args.self.now.value c.in-Some.caller.value (sym c.in-Some.ensures.caller)
    (t, c.put.ensures, subst (λ (s : Share). try.Trims s t c.args.class code) c.deref_mut.ensures.value c.try_trim-code.ensures)
