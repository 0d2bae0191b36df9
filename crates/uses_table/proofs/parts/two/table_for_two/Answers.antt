use Rattle.uses_table.proofs.parts.two.table_for_two.Goals as goal

pub new-requires-clause-area_own : goal.new-requires-clause-area_own
new-requires-clause-area_own g c κs within = c.in_ok-region.ensures.passes.each 1 _ c.two_of-area_zero.ensures.one

pub returns-clause-zero : goal.returns-clause-zero
returns-clause-zero g c =
    let s = c.in_ok-region.ensures in
    let t = c.in-Ok.ensures in
    let at = c.two_of-zero.ensures.zero in
    (record { table = t.table; keys = t.keys; own = t.passes.each 0 _ at; area = s.area; home = t.home; area_own = s.passes.each 0 _ c.two_of-area_zero.ensures.zero }, t.passes.numbers 0 _ at)

pub returns-clause-one : goal.returns-clause-one
returns-clause-one g c =
    let s = c.in_ok-region.ensures in
    let t = c.in-Ok.ensures in
    let at = c.two_of-zero.ensures.one in
    (record { table = t.table; keys = t.keys; own = t.passes.each 1 _ at; area = s.area; home = t.home; area_own = t.area_own }, t.passes.numbers 1 _ at)
