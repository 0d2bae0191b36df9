use Rattle.std.proofs.Common.{[], refl, subst, sym}
use Rattle.std.proofs.lemmas.Result.{IfOk-weaker}
use Rattle.shell_lines.specs.RingRequests.{request_of}
use Rattle.shell_sync.specs.Rings.{Answers}
use Rattle.shell_lines.specs.declared.rings.RingCommand.{RingCommand}
use Rattle.shell_sync.proofs.rings.Rings.answer.Goals as goal

pub returns-in_ok-answer-in-Ring-clause-answer : goal.returns-in_ok-answer-in-Ring-clause-answer
returns-in_ok-answer-in-Ring-clause-answer g c =
    let a = c.in_ok-answer-in-Ring.answer in
    let does = subst (λ (k : RingCommand). Answers c.args.heap.now c.ring.new.heap c.args.self.now c.ring.new.self (request_of k) a []) (sym c.in-Ring.is) c.in_ok-answer-in-Ring.ensures.answer in
    IfOk-weaker c.text.result _ _ (λ line text. record { answer = a; message = []; text = text; does = does }) c.text.ensures

pub returns-in_ok-answer-in-Send-clause-answer : goal.returns-in_ok-answer-in-Send-clause-answer
returns-in_ok-answer-in-Send-clause-answer g c =
    let a = c.in_ok-answer-in-Send.answer in
    let does = subst (λ (k : RingCommand). Answers c.args.heap.now c.args.heap.now c.args.self.now c.send.new.self (request_of k) a []) (sym c.in-Send.is) (refl, c.in_ok-answer-in-Send.ensures.answer) in
    IfOk-weaker c.text-in-Send.result _ _ (λ line text. record { answer = a; message = []; text = text; does = does }) c.text-in-Send.ensures
