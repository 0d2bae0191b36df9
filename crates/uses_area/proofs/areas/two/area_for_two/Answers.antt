use Rattle.uses_area.proofs.areas.two.area_for_two.Goals as goal

pub returns-clause-zero : goal.returns-clause-zero
returns-clause-zero c =
    let s = c.in_ok-region.ensures in
    let at = c.two_of-zero.ensures.zero in
    (s.passes.each 0 _ at, s.passes.numbers 0 _ at)

pub returns-clause-one : goal.returns-clause-one
returns-clause-one c =
    let s = c.in_ok-region.ensures in
    let at = c.two_of-zero.ensures.one in
    (s.passes.each 1 _ at, s.passes.numbers 1 _ at)
