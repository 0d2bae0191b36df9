use Rattle.std.proofs.Common.{inr, refl}
use Rattle.shell_memory.proofs.Named.{not-there}
use Rattle.shell_memory.proofs.table.Cells.open.Goals as goal

pub returns-in-Ok-clause-answer : goal.returns-in-Ok-clause-answer
returns-in-Ok-clause-answer g c =
    let told = c.in-Ok.ensures in
    inr (not-there c.args.self.now.table c.is_some.result c.is_some.ensures c.if-is_some.false, refl, told.asked, (c.in-Ok.table, refl, told.empty))
