use Rattle.std.proofs.Common.{Option, sym, subst}
use Rattle.c_area.specs.Calls.{Writes}
use Rattle.c_area.specs.Tries as try
use Rattle.c_area.specs.declared.shared.Share.{Share}
use Rattle.c_area.proofs.Handles.{of_taken}
use Rattle.c_area.proofs.handle.Handle.write.Goals as goal

pub returns : goal.returns
returns c =
    let t = c.write-code.new.self in
    let code = c.write-code.result in
    of_taken (λ (o : Option Share). Writes o c.put.new.self.value c.args.number c.args.from c.args.words.now code) c.args.self.now.value c.in-Some.caller.value (sym c.in-Some.ensures.caller)
    (t, c.put.ensures, subst (λ (s : Share). try.Writes s t c.args.number c.args.from c.args.words.now code) c.deref_mut.ensures.value c.write-code.ensures)
