use Rattle.shell_memory.proofs.TableLaws.{filled}
use Rattle.shell_memory.proofs.table.Cells.fill.Goals as goal

pub returns-in-Some-clause-answer : goal.returns-in-Some-clause-answer
returns-in-Some-clause-answer g c = filled c.args.heap.now c.fill.new.heap c.args.self.now c.in-Some.table c.fill.new.table c.args.count c.fill.result c.in-Some.is c.fill.ensures.area c.fill.ensures.answer
