use Rattle.std.proofs.Common.{◌∙◌}
use Rattle.lock_book.proofs.Uses.{only}
use Rattle.uses_join.proofs.probing.table_for_rows.Goals as goal

pub new-requires-3-clause-area_own : goal.new-requires-3-clause-area_own
new-requires-3-clause-area_own g c κs within =
    let s = c.in_ok-area.ensures in
    s.passes.each 0 c.in-Some.apass (only _ _ _ c.in-Some.ensures.items (s.passes.count ∙ s.callers))

pub returns-clause-home : goal.returns-clause-home
returns-clause-home g c =
    let s = c.in_ok-area.ensures in
    let t = c.in-Ok.ensures in
    record { table = t.table; keys = t.keys; own = t.passes.each 0 c.in-Some-pop.pass (only _ _ _ c.in-Some-pop.ensures.items (t.passes.count ∙ t.callers)); area = s.area; home = t.home; area_own = t.area_own }

pub returns-clause-only : goal.returns-clause-only
returns-clause-only g c =
    let t = c.in-Ok.ensures in
    (t.callers, t.passes.numbers 0 c.in-Some-pop.pass (only _ _ _ c.in-Some-pop.ensures.items (t.passes.count ∙ t.callers)))
