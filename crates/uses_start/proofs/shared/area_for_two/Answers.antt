use Rattle.std.proofs.Common.{◌∙◌}
use Rattle.lock_book.proofs.Uses.{both}
use Rattle.uses_start.proofs.shared.area_for_two.Goals as goal

-- the two passes that are popped are the last and the first of two
pub returns-clause-own : goal.returns-clause-own
returns-clause-own c =
    let a = c.in_ok-area.ensures in
    let at = both _ _ _ _ _ c.in-Some.ensures.items c.in-Some-pop.ensures.items (a.passes.count ∙ a.callers) in
    (a.passes.each 0 c.in-Some-pop.one at.0, a.passes.each 1 c.in-Some.other at.1)
