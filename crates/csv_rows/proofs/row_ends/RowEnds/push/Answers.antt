use Rattle.std.proofs.Common.{rules, ◌≡◌, length}
use Rattle.csv_rows.proofs.Ends.{ends-more}
use Rattle.csv_rows.proofs.row_ends.RowEnds.push.Goals as goal

pub returns-then-self-lt4294967295 : goal.returns-then-self-lt4294967295
returns-then-self-lt4294967295 c =
    let none : length c.self.inside.later.items ≡ 0 = search rules in
    rw (← c.self.view_is, c.if-end-next.true) (ends-more c.self.inside.width c.self.inside.even c.self.inside.later.items none)
