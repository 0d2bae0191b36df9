use Rattle.std.proofs.Common.{◌∙◌, sym, arith}
use Rattle.csv_rows.proofs.Ends.{ends-length, start-even, start-later}
use Rattle.csv_rows.proofs.row_ends.RowEnds.start.Goals as goal

pub returns-then-row-even : goal.returns-then-row-even
returns-then-row-even c = rw (← c.self.view_is) (sym (start-even _ _ _ c.args.row c.if-row-even.true (rw (← c.self.view_is) at c.requires)))

pub index-requires : goal.index-requires
index-requires c =
    let size = ends-length c.self.inside.width c.self.inside.even c.self.inside.later.items in
    let lt = rw (← c.self.view_is, size) at c.requires in
    omega (arith, lt, c.if-row-even.false)

pub returns : goal.returns
returns c = c.index.ensures ∙ rw (← c.self.view_is) (sym (start-later _ _ _ c.args.row c.index.result.now c.if-row-even.false (rw (← c.self.view_is) at c.requires)))
