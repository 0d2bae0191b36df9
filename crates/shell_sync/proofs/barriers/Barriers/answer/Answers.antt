use Rattle.std.proofs.Common.{subst, sym}
use Rattle.std.proofs.lemmas.Result.{IfOk-weaker}
use Rattle.shell_lines.specs.BarrierRequests.{request_of}
use Rattle.shell_sync.specs.Barriers.{Answers}
use Rattle.shell_lines.specs.declared.barriers.BarrierCommand.{BarrierCommand}
use Rattle.shell_sync.proofs.barriers.Barriers.answer.Goals as goal

pub returns-in_ok-answer-in-New-clause-answer : goal.returns-in_ok-answer-in-New-clause-answer
returns-in_ok-answer-in-New-clause-answer g c =
    let a = c.in_ok-answer-in-New.answer in
    let does = subst (λ (k : BarrierCommand). Answers c.args.self.now c.make.new.self (request_of k) a) (sym c.in-New.is) c.in_ok-answer-in-New.ensures.answer in
    IfOk-weaker c.text.result _ _ (λ line text. record { answer = a; text = text; does = does }) c.text.ensures
