use Rattle.std.proofs.Common.{arith}
use Rattle.uses_load.proofs.Elements.{of_last, of_front, one_more}
use Rattle.uses_load.proofs.table.table_for.Goals as goal

pub new-requires-clause-area_own : goal.new-requires-clause-area_own
new-requires-clause-area_own g c κs within = of_last _ _ _ c.in-Some.apass c.in-Some.ensures.items c.in_ok-region.ensures.passes.each

pub paired-requires-clause-own : goal.paired-requires-clause-own
paired-requires-clause-own g c = of_front _ _ _ c.in-Some-pop.pass c.in-Some-pop.ensures.items c.in-Ok.ensures.passes.each

pub paired-requires-clause-area_own : goal.paired-requires-clause-area_own
paired-requires-clause-area_own g c = of_front _ _ _ _ c.in-Some.ensures.items c.in_ok-region.ensures.passes.each

pub paired-requires-clause-count : goal.paired-requires-clause-count
paired-requires-clause-count g c =
    let s = c.in_ok-region.ensures in
    let t = c.in-Ok.ensures in
    omega (arith, one_more _ _ _ c.in-Some.ensures.items, one_more _ _ _ c.in-Some-pop.ensures.items, s.passes.count, s.callers, t.passes.count, t.callers)

pub returns-clause-first : goal.returns-clause-first
returns-clause-first g c = (of_last _ _ _ c.in-Some-pop.pass c.in-Some-pop.ensures.items c.in-Ok.ensures.passes.each, c.in-Ok.ensures.area_own)

pub returns-clause-count : goal.returns-clause-count
returns-clause-count g c = let t = c.in-Ok.ensures in omega (arith, c.in_ok-rest.ensures.count, one_more _ _ _ c.in-Some-pop.ensures.items, t.passes.count, t.callers)
