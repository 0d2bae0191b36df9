use Rattle.std.proofs.Common.{refl}
use Rattle.dsa_area.specs.Shown.{pool_name}
use Rattle.dsa_area.proofs.Steps.{pool_there, pool_event, are_objects, no_other_fill}
use Rattle.dsa_area.proofs.at_pools.alloc_objects.Goals as goal

pub returns-clause-given : goal.returns-clause-given
returns-clause-given g c = pool_event c.args.r.now c.args.area.now _ _ c.args.class _ _ _ c.requires.area c.requires.own.one_caller c.requires.class c.place_of.ensures refl c.in-Filled.ensures.called

pub returns-clause-chunks : goal.returns-clause-chunks
returns-clause-chunks g c = are_objects c.args.r.now c.args.area.now c.args.class c.in-Filled.objects.items c.requires.class (c.in-Filled.ensures.output _ (pool_there c.args.r.now c.args.area.now c.args.class _ c.requires.area c.requires.class c.place_of.ensures)).0

pub returns-clause-capacity : goal.returns-clause-capacity
returns-clause-capacity g c = (c.in-Filled.ensures.output _ (pool_there c.args.r.now c.args.area.now c.args.class _ c.requires.area c.requires.class c.place_of.ensures)).1

pub unreachable-requires : goal.unreachable-requires
unreachable-requires g c = no_other_fill (pool_name c.args.r.now c.args.area.now c.args.class) c.args.count c.args.empty c.call.result (c.call.ensures.output _ (pool_there c.args.r.now c.args.area.now c.args.class _ c.requires.area c.requires.class c.place_of.ensures)) c.in_default.not-Filled
