use Rattle.shell_memory.proofs.ContentLaws.{goes-frozen}
use Rattle.shell_memory.specs.Contents.{Attaches}
use Rattle.shell_memory.proofs.contents.Contents.attach.Goals as goal

pub returns-in-Some-clause-answer : goal.returns-in-Some-clause-answer
returns-in-Some-clause-answer c = λ chunks.
    goes-frozen c.args.r.now c.args.self.now c.requires.contents c.in-Some.toc c.attach.new.toc (λ s t. Attaches s t chunks chunks c.args.magic c.attach.result) c.in-Some.is (c.attach.ensures.answer chunks)
