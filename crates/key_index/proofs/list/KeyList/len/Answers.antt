use Rattle.std.proofs.Common.{ap, arith, length}
use Rattle.csv.proofs.RecordFacts.{cut-length}
use Rattle.key_index.proofs.list.KeyList.len.Goals as goal

pub returns : goal.returns
returns c = omega (arith, c.len.ensures, cut-length 0 c.self.inside.ends.items c.self.inside.bytes.items, ap length c.self.view_is)
