use Rattle.dshash_numbers.specs.declared.number.NumberCall.TheVariants as verb
use Rattle.shell_memory.specs.Tables.{Gives}
use Rattle.shell_memory.proofs.TableLaws.{gives, goes}
use Rattle.shell_memory.proofs.table.Cells.get.Goals as goal

pub returns-in-Some-clause-answer : goal.returns-in-Some-clause-answer
returns-in-Some-clause-answer g c =
    let n = c.in-Some.table in
    let h = c.args.heap.now in
    let step = gives h.area n c.get.new.self h.pass h.pass c.args.key.now verb.Get c.get.result c.found.result c.found.ensures.none c.found.ensures.some (c.get.ensures.made h.area h.pass) in
    goes (λ a n m u v. Gives a n m u v c.args.key.now verb.Get) h h.pass c.args.self.now n c.get.new.self c.found.result c.in-Some.is step
