use Rattle.std.proofs.Common.{refl}
use Rattle.dsa_area.proofs.Steps.{pool_there, pool_event, is_object}
use Rattle.dsa_area.proofs.at_pools.add_superblock.Goals as goal

pub returns-clause-added : goal.returns-clause-added
returns-clause-added g c = pool_event c.args.r.now c.args.area.now _ _ c.args.class _ _ _ c.requires.area c.requires.own.one_caller c.requires.class c.place_of.ensures refl c.in-Given.ensures.called

pub returns-clause-size : goal.returns-clause-size
returns-clause-size g c = (is_object c.args.r.now c.args.area.now c.args.class c.in-Given.object c.requires.class (c.in-Given.ensures.output _ (pool_there c.args.r.now c.args.area.now c.args.class _ c.requires.area c.requires.class c.place_of.ensures))).0

pub returns-clause-here : goal.returns-clause-here
returns-clause-here g c = (is_object c.args.r.now c.args.area.now c.args.class c.in-Given.object c.requires.class (c.in-Given.ensures.output _ (pool_there c.args.r.now c.args.area.now c.args.class _ c.requires.area c.requires.class c.place_of.ensures))).1
