use Rattle.std.proofs.Common.{refl}
use Rattle.dsa_area.specs.Shown.{pool_name}
use Rattle.dsa_area.proofs.Steps.{pool_there, pool_event, is_object, no_other_alloc}
use Rattle.dsa_area.proofs.at_pools.alloc_object.Goals as goal

pub returns-in-Given-clause-given : goal.returns-in-Given-clause-given
returns-in-Given-clause-given g c = pool_event c.args.r.now c.args.area.now _ _ c.args.class _ _ _ c.requires.area c.requires.own.one_caller c.requires.class c.place_of.ensures refl c.in-Given.ensures.called

pub returns-in-Given-clause-size : goal.returns-in-Given-clause-size
returns-in-Given-clause-size g c = (is_object c.args.r.now c.args.area.now c.args.class c.in-Given.object c.requires.class (c.in-Given.ensures.output _ (pool_there c.args.r.now c.args.area.now c.args.class _ c.requires.area c.requires.class c.place_of.ensures))).0

pub returns-in-Given-clause-here : goal.returns-in-Given-clause-here
returns-in-Given-clause-here g c = (is_object c.args.r.now c.args.area.now c.args.class c.in-Given.object c.requires.class (c.in-Given.ensures.output _ (pool_there c.args.r.now c.args.area.now c.args.class _ c.requires.area c.requires.class c.place_of.ensures))).1

pub returns-in-AllLive-clause-full : goal.returns-in-AllLive-clause-full
returns-in-AllLive-clause-full g c = pool_event c.args.r.now c.args.area.now _ _ c.args.class _ _ _ c.requires.area c.requires.own.one_caller c.requires.class c.place_of.ensures refl c.in-AllLive.ensures.called

pub unreachable-requires : goal.unreachable-requires
unreachable-requires g c = no_other_alloc (pool_name c.args.r.now c.args.area.now c.args.class) c.call.result (c.call.ensures.output _ (pool_there c.args.r.now c.args.area.now c.args.class _ c.requires.area c.requires.class c.place_of.ensures)) c.in_default.not-Given c.in_default.not-AllLive
