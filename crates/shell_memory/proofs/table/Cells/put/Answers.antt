use Rattle.std.proofs.Common.{ℕ, Option, subst}
use Rattle.dshash_core.specs.Key.{packed_key}
use Rattle.dshash_numbers.specs.Maps.{IsMade}
use Rattle.dshash_numbers.specs.declared.number.NumberCall.TheVariants as verb
use Rattle.shell_memory.specs.Tables.{Sets}
use Rattle.shell_memory.specs.declared.table.TableAnswer.TheVariants as answer
use Rattle.shell_memory.proofs.TableLaws.{goes}
use Rattle.shell_memory.proofs.table.Cells.put.Goals as goal

pub returns-in-Ok-None-clause-answer : goal.returns-in-Ok-None-clause-answer
returns-in-Ok-None-clause-answer g c =
    let h = c.args.heap.now in
    let made = subst (λ (before : Option ℕ). IsMade h.area c.in-Some.table c.put.new.self h.pass c.put.new.apass (packed_key c.args.key.now) (verb.Put c.args.value) before) c.in-Ok-None.field-0-is c.in-Ok-None.ensures.made in
    goes (λ a n m u v. Sets a n m u v c.args.key.now c.args.value) h c.put.new.apass c.args.self.now c.in-Some.table c.put.new.self answer.New c.in-Some.is made

pub returns-in-Ok-Some-clause-answer : goal.returns-in-Ok-Some-clause-answer
returns-in-Ok-Some-clause-answer g c =
    let h = c.args.heap.now in
    let made = subst (λ (before : Option ℕ). IsMade h.area c.in-Some.table c.put.new.self h.pass c.put.new.apass (packed_key c.args.key.now) (verb.Put c.args.value) before) c.in-Ok-Some.field-0-is c.in-Ok-Some.ensures.made in
    goes (λ a n m u v. Sets a n m u v c.args.key.now c.args.value) h c.put.new.apass c.args.self.now c.in-Some.table c.put.new.self (answer.Old c.in-Ok-Some.value) c.in-Some.is made

pub returns-in-Err-clause-answer : goal.returns-in-Err-clause-answer
returns-in-Err-clause-answer g c =
    goes (λ a n m u v. Sets a n m u v c.args.key.now c.args.value) c.args.heap.now c.put.new.apass c.args.self.now c.in-Some.table c.put.new.self (answer.NoSpace c.in-Err.field-0.pages c.in-Err.field-0.largest) c.in-Some.is c.in-Err.ensures.refused
