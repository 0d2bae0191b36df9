use Rattle.std.proofs.Common.{rules}
use Rattle.csv_rows.proofs.Groups.{apart-stored-length}
use Rattle.csv_rows.proofs.piece.Piece.last.Goals as goal

pub returns : goal.returns
returns c =
    let n = apart-stored-length c.self.inside.gap c.self.inside.bytes.items c.self.inside.ends.items c.self.inside.row_ends in
    let some = c.self.invariant.some in
    rw (← c.self.view_is, n) (search rules)
