use Rattle.dsa_area.proofs.Steps.{pool_then_pages}
use Rattle.dsa_area.proofs.area.Area.trim.Goals as goal

pub returns-in-Some-clause-trimmed : goal.returns-in-Some-clause-trimmed
returns-in-Some-clause-trimmed g c = λ _.
    let given = c.give_superblock.ensures.given in
    (c.in-Some.run'.at, given.0, pool_then_pages c.args.self.now c.args.pass.now c.trim_pool.new.pass c.give_superblock.new.pass c.args.class _ _ c.trim_pool.ensures.caller c.requires.class c.in-Some.ensures.whole given.1)
