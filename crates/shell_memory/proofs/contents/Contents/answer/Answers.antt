use Rattle.std.proofs.Common.{subst, sym}
use Rattle.std.proofs.lemmas.Result.{IfOk-weaker}
use Rattle.shell_memory.specs.Contents.{Answers, Goes}
use Rattle.shell_lines.specs.TocRequests.{request_of}
use Rattle.shell_lines.specs.declared.contents.TocCommand.{TocCommand}
use Rattle.shell_memory.proofs.contents.Contents.answer.Goals as goal

pub returns-in-Insert-clause-answer : goal.returns-in-Insert-clause-answer
returns-in-Insert-clause-answer c =
    let does = subst (λ (k : TocCommand). Goes c.args.self.now c.insert.new.self (λ s t. Answers (request_of k) s t c.args.chunks.now c.args.chunks.now c.insert.result)) (sym c.in-Insert.is) c.insert.ensures.answer in
    IfOk-weaker c.text-in-Insert.result _ _ (λ line text. record { answer = c.insert.result; text = text; does = does }) c.text-in-Insert.ensures

pub returns-in-Find-clause-answer : goal.returns-in-Find-clause-answer
returns-in-Find-clause-answer c =
    let does = subst (λ (k : TocCommand). Goes c.args.self.now c.find.new.self (λ s t. Answers (request_of k) s t c.args.chunks.now c.args.chunks.now c.find.result)) (sym c.in-Find.is) (c.find.ensures.answer c.args.chunks.now) in
    IfOk-weaker c.text-in-Find.result _ _ (λ line text. record { answer = c.find.result; text = text; does = does }) c.text-in-Find.ensures

pub returns-in-Freeze-clause-answer : goal.returns-in-Freeze-clause-answer
returns-in-Freeze-clause-answer c =
    let does = subst (λ (k : TocCommand). Goes c.args.self.now c.freeze.new.self (λ s t. Answers (request_of k) s t c.args.chunks.now c.args.chunks.now c.freeze.result)) (sym c.in-Freeze.is) (c.freeze.ensures.answer c.args.chunks.now) in
    IfOk-weaker c.text-in-Freeze.result _ _ (λ line text. record { answer = c.freeze.result; text = text; does = does }) c.text-in-Freeze.ensures

pub returns-in-Attach-clause-answer : goal.returns-in-Attach-clause-answer
returns-in-Attach-clause-answer c =
    let does = subst (λ (k : TocCommand). Goes c.args.self.now c.attach.new.self (λ s t. Answers (request_of k) s t c.args.chunks.now c.args.chunks.now c.attach.result)) (sym c.in-Attach.is) (c.attach.ensures.answer c.args.chunks.now) in
    IfOk-weaker c.text-in-Attach.result _ _ (λ line text. record { answer = c.attach.result; text = text; does = does }) c.text-in-Attach.ensures
