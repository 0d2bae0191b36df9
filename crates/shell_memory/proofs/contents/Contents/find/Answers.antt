use Rattle.shell_memory.proofs.ContentLaws.{goes-frozen}
use Rattle.shell_memory.specs.Contents.{Finds}
use Rattle.shell_memory.proofs.contents.Contents.find.Goals as goal

pub returns-in-Some-clause-answer : goal.returns-in-Some-clause-answer
returns-in-Some-clause-answer c = λ chunks.
    goes-frozen c.args.r.now c.args.self.now c.requires.contents c.in-Some.toc c.find.new.toc (λ s t. Finds s t chunks chunks c.args.key c.find.result) c.in-Some.is (c.find.ensures.answer chunks)
