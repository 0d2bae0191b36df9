use Rattle.std.proofs.Common.{◌∙◌}
use Rattle.lock_book.proofs.Uses.{only}
use Rattle.dshash_numbers.proofs.table.NumberTable.new.Goals as goal

pub returns-clause-table : goal.returns-clause-table
returns-clause-table g c =
    let t = c.in_ok-table.ensures in
    let own = t.passes.each 0 c.in-Some.pass (only _ _ _ c.in-Some.ensures.items (t.passes.count ∙ t.callers)) in
    record { table = t.table; keys = t.keys; items = t.items; own = own; alone = t.callers }

pub returns-clause-empty : goal.returns-clause-empty
returns-clause-empty g c number =
    let t = c.in_ok-table.ensures in
    (t.fresh 0 c.in-Some.pass (only _ _ _ c.in-Some.ensures.items (t.passes.count ∙ t.callers)) number).0
