use Rattle.std.proofs.Common.{inr}
use Rattle.dsa_area.proofs.Steps.{pool_then_pages}
use Rattle.dsa_area.proofs.objects.take_object_back.Goals as goal

pub returns-in-Ok-Some-clause-freed : goal.returns-in-Ok-Some-clause-freed
returns-in-Ok-Some-clause-freed g c =
    let given = c.give_superblock.ensures.given in
    inr (c.in-Ok-Some.run'.at, given.0, pool_then_pages c.args.area.now c.args.pass.now c.free_object.new.pass c.give_superblock.new.pass c.args.class _ _ c.in-Ok-Some.ensures.caller c.requires.class (rw c.in-Ok-Some.field-0-is at c.in-Ok-Some.ensures.emptied) given.1)
