use Rattle.std.proofs.Common.{sym}
use Rattle.csv_rows.proofs.Groups.{record-there}
use Rattle.csv_rows.proofs.piece.Piece.width.Goals as goal

pub width-requires-clause-row : goal.width-requires-clause-row
width-requires-clause-row c = (record-there _ _ _ _ _ c.self.invariant (rw (← c.self.view_is) at c.requires)).there

pub width-requires-clause-up : goal.width-requires-clause-up
width-requires-clause-up c = (record-there _ _ _ _ _ c.self.invariant (rw (← c.self.view_is) at c.requires)).up

pub returns : goal.returns
returns c =
    let r = record-there _ _ _ _ _ c.self.invariant (rw (← c.self.view_is) at c.requires) in
    rw (c.width.ensures, ← c.self.view_is) (sym r.width)
