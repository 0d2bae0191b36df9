use Rattle.std.proofs.Common.{◌∙◌}
use Rattle.lock_book.proofs.Uses.{only}
use Rattle.uses_table.proofs.numbers.area_for.Goals as goal

pub returns-clause-own : goal.returns-clause-own
returns-clause-own c =
    let s = c.in_ok-region.ensures in
    s.passes.each 0 c.in-Some.pass (only _ _ _ c.in-Some.ensures.items (s.passes.count ∙ s.callers))
