use Rattle.std.proofs.Common.{ap, arith, length}
use Rattle.line_runs.proofs.Entries.{length-entries}
use Rattle.line_runs.proofs.run.Run.len.Goals as goal

pub returns : goal.returns
returns c = omega (arith, c.len.ensures, length-entries c.self.inside.bytes.items c.self.inside.ends.items, ap length c.self.view_is)
