use Rattle.std.proofs.Common.{subst, sym}
use Rattle.std.proofs.lemmas.Result.{IfOk-weaker}
use Rattle.shell_memory.specs.Tables.{Answers}
use Rattle.shell_lines.specs.TableRequests.{request_of}
use Rattle.shell_lines.specs.declared.table.TableCommand.{TableCommand}
use Rattle.shell_memory.proofs.table.Cells.answer.Goals as goal

pub returns-in-Put-clause-answer : goal.returns-in-Put-clause-answer
returns-in-Put-clause-answer g c =
    let does = subst (λ (k : TableCommand). Answers c.args.heap.now c.put.new.heap c.args.self.now c.put.new.self (request_of k) c.put.result) (sym c.in-Put.is) c.put.ensures.answer in
    IfOk-weaker c.text-in-Put.result _ _ (λ line text. record { answer = c.put.result; text = text; does = does }) c.text-in-Put.ensures

pub returns-in-Get-clause-answer : goal.returns-in-Get-clause-answer
returns-in-Get-clause-answer g c =
    let does = subst (λ (k : TableCommand). Answers c.args.heap.now c.get.new.heap c.args.self.now c.get.new.self (request_of k) c.get.result) (sym c.in-Get.is) c.get.ensures.answer in
    IfOk-weaker c.text-in-Get.result _ _ (λ line text. record { answer = c.get.result; text = text; does = does }) c.text-in-Get.ensures

pub returns-in-Delete-clause-answer : goal.returns-in-Delete-clause-answer
returns-in-Delete-clause-answer g c =
    let does = subst (λ (k : TableCommand). Answers c.args.heap.now c.delete.new.heap c.args.self.now c.delete.new.self (request_of k) c.delete.result) (sym c.in-Delete.is) c.delete.ensures.answer in
    IfOk-weaker c.text-in-Delete.result _ _ (λ line text. record { answer = c.delete.result; text = text; does = does }) c.text-in-Delete.ensures

pub returns-in_ok-answer-in-Table-clause-answer : goal.returns-in_ok-answer-in-Table-clause-answer
returns-in_ok-answer-in-Table-clause-answer g c =
    let a = c.in_ok-answer-in-Table.answer in
    let does = subst (λ (k : TableCommand). Answers c.args.heap.now c.open.new.heap c.args.self.now c.open.new.self (request_of k) a) (sym c.in-Table.is) c.in_ok-answer-in-Table.ensures.answer in
    IfOk-weaker c.text.result _ _ (λ line text. record { answer = a; text = text; does = does }) c.text.ensures

pub returns-in_ok-answer-in-Fill-clause-answer : goal.returns-in_ok-answer-in-Fill-clause-answer
returns-in_ok-answer-in-Fill-clause-answer g c =
    let a = c.in_ok-answer-in-Fill.answer in
    let does = subst (λ (k : TableCommand). Answers c.args.heap.now c.fill.new.heap c.args.self.now c.fill.new.self (request_of k) a) (sym c.in-Fill.is) c.in_ok-answer-in-Fill.ensures.answer in
    IfOk-weaker c.text-in-Fill.result _ _ (λ line text. record { answer = a; text = text; does = does }) c.text-in-Fill.ensures

pub returns-in_ok-answer-in-Total-clause-answer : goal.returns-in_ok-answer-in-Total-clause-answer
returns-in_ok-answer-in-Total-clause-answer g c =
    let a = c.in_ok-answer-in-Total.answer in
    let does = subst (λ (k : TableCommand). Answers c.args.heap.now c.args.heap.now c.args.self.now c.total.new.self (request_of k) a) (sym c.in-Total.is) (c.in_ok-answer-in-Total.ensures.answer c.args.heap.now) in
    IfOk-weaker c.text-in-Total.result _ _ (λ line text. record { answer = a; text = text; does = does }) c.text-in-Total.ensures
