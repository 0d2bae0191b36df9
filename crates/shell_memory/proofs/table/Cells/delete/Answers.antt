use Rattle.dshash_numbers.specs.declared.number.NumberCall.TheVariants as verb
use Rattle.shell_memory.specs.Tables.{Gives}
use Rattle.shell_memory.proofs.TableLaws.{gives, goes}
use Rattle.shell_memory.proofs.table.Cells.delete.Goals as goal

pub returns-in-Some-clause-answer : goal.returns-in-Some-clause-answer
returns-in-Some-clause-answer g c =
    let n = c.in-Some.table in
    let h = c.args.heap.now in
    let step = gives h.area n c.take.new.self h.pass c.take.new.apass c.args.key.now verb.Delete c.take.result c.found.result c.found.ensures.none c.found.ensures.some c.take.ensures.made in
    goes (λ a n m u v. Gives a n m u v c.args.key.now verb.Delete) h c.take.new.apass c.args.self.now n c.take.new.self c.found.result c.in-Some.is step
