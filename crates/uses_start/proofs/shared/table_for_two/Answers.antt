use Rattle.std.proofs.Common.{◌∙◌}
use Rattle.lock_book.proofs.Uses.{both}
use Rattle.uses_start.proofs.shared.table_for_two.Goals as goal

-- the two passes that are popped are the last and the first of two
pub returns-clause-own : goal.returns-clause-own
returns-clause-own g c =
    let t = c.in-Ok.ensures in
    let at = both _ _ _ _ _ c.in-Some.ensures.items c.in-Some-pop.ensures.items (t.passes.count ∙ t.callers) in
    (t.passes.each 0 c.in-Some-pop.one at.0, t.passes.each 1 c.in-Some.other at.1)
