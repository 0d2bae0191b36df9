use Rattle.std.proofs.Common.{rules}
use Rattle.csv_rows.proofs.Ends.{ends-length}
use Rattle.csv_rows.proofs.row_ends.RowEnds.len.Goals as goal

pub returns : goal.returns
returns c =
    let size = ends-length c.self.inside.width c.self.inside.even c.self.inside.later.items in
    rw (← c.self.view_is, size) (search rules)
