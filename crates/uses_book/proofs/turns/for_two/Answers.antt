use Rattle.std.proofs.Common.{◌∙◌}
use Rattle.lock_book.proofs.Uses.{both}
use Rattle.uses_book.proofs.turns.for_two.Goals as goal

pub returns-clause-zero : goal.returns-clause-zero
returns-clause-zero c =
    let s = c.in_ok-barrier.ensures in
    let all = s.passes in
    let at = (both _ _ _ _ _ c.in-Some.ensures.items c.in-Some-pop.ensures.items (all.count ∙ s.callers)).0 in
    all.each 0 c.in-Some-pop.zero at

pub returns-clause-one : goal.returns-clause-one
returns-clause-one c =
    let s = c.in_ok-barrier.ensures in
    let all = s.passes in
    let at = (both _ _ _ _ _ c.in-Some.ensures.items c.in-Some-pop.ensures.items (all.count ∙ s.callers)).1 in
    all.each 1 c.in-Some.one at
