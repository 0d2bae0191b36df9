use Rattle.std.proofs.Common.{refl, subst, sym}
use Rattle.std.proofs.lemmas.Result.{IfOk-weaker}
use Rattle.shell_lines.specs.ChunkRequests.{request_of}
use Rattle.shell_memory.specs.Chunks.{Answers}
use Rattle.shell_lines.specs.declared.chunks.ChunkCommand.{ChunkCommand}
use Rattle.shell_memory.proofs.chunks.Chunks.answer.Goals as goal

pub returns-in-Store-clause-answer : goal.returns-in-Store-clause-answer
returns-in-Store-clause-answer g c =
    let does = subst (λ (k : ChunkCommand). Answers (request_of k) c.args.heap.now c.args.heap.now c.args.self.now c.store.new.self c.store.result) (sym c.in-Store.is) (refl, c.store.ensures.answer) in
    IfOk-weaker c.text-in-Store.result _ _ (λ line text. record { answer = c.store.result; text = text; does = does }) c.text-in-Store.ensures

pub returns-in-Load-clause-answer : goal.returns-in-Load-clause-answer
returns-in-Load-clause-answer g c =
    let does = subst (λ (k : ChunkCommand). Answers (request_of k) c.args.heap.now c.args.heap.now c.args.self.now c.load.new.self c.load.result) (sym c.in-Load.is) (refl, c.load.ensures.answer) in
    IfOk-weaker c.text-in-Load.result _ _ (λ line text. record { answer = c.load.result; text = text; does = does }) c.text-in-Load.ensures
