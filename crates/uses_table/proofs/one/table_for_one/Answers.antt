use Rattle.std.proofs.Common.{◌∙◌}
use Rattle.lock_book.proofs.Uses.{only}
use Rattle.uses_table.proofs.one.table_for_one.Goals as goal

pub returns : goal.returns
returns g c =
    let s = c.in_ok-region.ensures in
    let t = c.in-Ok.ensures in
    record { seed = t.seed; home = record { table = t.table; keys = t.keys; own = t.passes.each 0 c.in-Some.pass (only _ _ _ c.in-Some.ensures.items (t.passes.count ∙ t.callers)); area = s.area; home = t.home; area_own = t.area_own } }
