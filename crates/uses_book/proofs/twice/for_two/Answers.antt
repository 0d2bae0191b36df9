use Rattle.uses_book.proofs.twice.for_two.Goals as goal

pub returns-clause-zero : goal.returns-clause-zero
returns-clause-zero c =
    let s = c.in_ok-shelf.ensures in
    let at = c.two_of-zero.ensures.zero in
    (s.passes.each 0 _ at, s.passes.numbers 0 _ at, (s.fresh 0 _ at 0).1)

pub returns-clause-one : goal.returns-clause-one
returns-clause-one c =
    let s = c.in_ok-shelf.ensures in
    let at = c.two_of-zero.ensures.one in
    (s.passes.each 1 _ at, s.passes.numbers 1 _ at, (s.fresh 1 _ at 0).1)
