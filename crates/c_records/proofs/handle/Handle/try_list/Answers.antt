use Rattle.std.proofs.Common.{sym, subst}
use Rattle.c_records.specs.Looks.{Lists}
use Rattle.c_records.specs.declared.shared.Share.{Share}
use Rattle.c_records.proofs.Handles.{lists}
use Rattle.c_records.proofs.handle.Handle.try_list.Goals as goal

pub returns : goal.returns
returns c =
    let t = c.try_list-answer.new.self in
    let answer = c.try_list-answer.result in
    lists c.args.self.now.value c.put.new.self.value c.args.partition c.args.keys.now c.args.records.now c.try_list-answer.new.keys c.try_list-answer.new.records answer.0 answer.1 c.in-Some.caller.value t (sym c.in-Some.ensures.caller) c.put.ensures
    (subst (λ (s : Share). Lists s t c.args.partition c.args.keys.now c.args.records.now c.try_list-answer.new.keys c.try_list-answer.new.records answer.0 answer.1) c.deref_mut.ensures.value c.try_list-answer.ensures)
