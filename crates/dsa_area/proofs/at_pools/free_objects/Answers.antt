use Rattle.std.proofs.Common.{refl}
use Rattle.dsa_area.specs.Shown.{pool_name}
use Rattle.dsa_area.proofs.Steps.{pool_there, pool_event, pool_asked, no_other_return}
use Rattle.dsa_area.proofs.at_pools.free_objects.Goals as goal

pub call-requires-clause-input : goal.call-requires-clause-input
call-requires-clause-input g c = λ κs within o e. pool_asked c.args.r.now c.args.area.now c.args.class c.place_of.result c.args.objects.items o c.requires.area c.requires.class c.place_of.ensures e c.requires.chunks

pub returns-in-FreedMany-clause-freed : goal.returns-in-FreedMany-clause-freed
returns-in-FreedMany-clause-freed g c = pool_event c.args.r.now c.args.area.now _ _ c.args.class _ _ _ c.requires.area c.requires.own.one_caller c.requires.class c.place_of.ensures refl c.in-FreedMany.ensures.called

pub returns-in-EmptiedMany-clause-emptied : goal.returns-in-EmptiedMany-clause-emptied
returns-in-EmptiedMany-clause-emptied g c = pool_event c.args.r.now c.args.area.now _ _ c.args.class _ _ _ c.requires.area c.requires.own.one_caller c.requires.class c.place_of.ensures refl c.in-EmptiedMany.ensures.called

pub returns-in-NotAllOurs-clause-refused : goal.returns-in-NotAllOurs-clause-refused
returns-in-NotAllOurs-clause-refused g c = pool_event c.args.r.now c.args.area.now _ _ c.args.class _ _ _ c.requires.area c.requires.own.one_caller c.requires.class c.place_of.ensures refl c.in-NotAllOurs.ensures.called

pub unreachable-requires : goal.unreachable-requires
unreachable-requires g c = no_other_return (pool_name c.args.r.now c.args.area.now c.args.class) c.args.count c.args.objects c.call.result (c.call.ensures.output _ (pool_there c.args.r.now c.args.area.now c.args.class _ c.requires.area c.requires.class c.place_of.ensures)) c.in_default.not-FreedMany c.in_default.not-EmptiedMany c.in_default.not-NotAllOurs
