use Rattle.std.proofs.Common.{refl}
use Rattle.shell_memory.specs.Tables.{Totals}
use Rattle.shell_memory.specs.declared.table.TableAnswer.TheVariants as answer
use Rattle.shell_memory.proofs.TableLaws.{goes, stays_home}
use Rattle.shell_memory.proofs.table.Cells.total.Goals as goal

pub returns-in_ok-count-in-Some-clause-answer : goal.returns-in_ok-count-in-Some-clause-answer
returns-in_ok-count-in-Some-clause-answer g c h =
    let told = c.in_ok-count-in-Some in
    goes Totals h h.pass c.args.self.now c.in-Some.table c.total.new.self (answer.Total told.field-0.count told.field-0.sum) c.in-Some.is (told.ensures.total, refl)

pub returns-in_ok-count-in-Some-clause-home : goal.returns-in_ok-count-in-Some-clause-home
returns-in_ok-count-in-Some-clause-home g c a = stays_home a c.args.self.now c.in-Some.table c.total.new.self c.in-Some.is (c.in_ok-count-in-Some.ensures.home a)
