use Rattle.shell_memory.proofs.ContentLaws.{goes-growing}
use Rattle.shell_memory.specs.Contents.{Inserts}
use Rattle.shell_memory.proofs.contents.Contents.insert.Goals as goal

pub returns-in-Some-clause-answer : goal.returns-in-Some-clause-answer
returns-in-Some-clause-answer c =
    goes-growing c.args.r.now c.args.self.now c.requires.contents c.in-Some.toc c.insert.new.toc (λ s t. Inserts s t c.args.chunks.now c.args.chunks.now c.args.key c.args.name.now c.insert.result) c.in-Some.is c.insert.ensures.answer
