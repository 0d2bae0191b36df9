use Rattle.std.proofs.Common.{refl}
use Rattle.dsa_area.specs.Shown.{pool_name}
use Rattle.dsa_area.proofs.Steps.{pool_there, pool_event, no_other_free}
use Rattle.dsa_area.proofs.at_pools.free_object.Goals as goal

pub returns-in-Freed-clause-freed : goal.returns-in-Freed-clause-freed
returns-in-Freed-clause-freed g c = pool_event c.args.r.now c.args.area.now _ _ c.args.class _ _ _ c.requires.area c.requires.own.one_caller c.requires.class c.place_of.ensures refl c.in-Freed.ensures.called

pub returns-in-Emptied-clause-emptied : goal.returns-in-Emptied-clause-emptied
returns-in-Emptied-clause-emptied g c = pool_event c.args.r.now c.args.area.now _ _ c.args.class _ _ _ c.requires.area c.requires.own.one_caller c.requires.class c.place_of.ensures refl c.in-Emptied.ensures.called

pub returns-in-Emptied-clause-run : goal.returns-in-Emptied-clause-run
returns-in-Emptied-clause-run g c = c.in-Emptied.ensures.output _ (pool_there c.args.r.now c.args.area.now c.args.class _ c.requires.area c.requires.class c.place_of.ensures)

pub returns-in-NotOurs-clause-refused : goal.returns-in-NotOurs-clause-refused
returns-in-NotOurs-clause-refused g c = pool_event c.args.r.now c.args.area.now _ _ c.args.class _ _ _ c.requires.area c.requires.own.one_caller c.requires.class c.place_of.ensures refl c.in-NotOurs.ensures.called

pub unreachable-requires : goal.unreachable-requires
unreachable-requires g c = no_other_free (pool_name c.args.r.now c.args.area.now c.args.class) c.args.object c.call.result (c.call.ensures.output _ (pool_there c.args.r.now c.args.area.now c.args.class _ c.requires.area c.requires.class c.place_of.ensures)) c.in_default.not-Freed c.in_default.not-Emptied c.in_default.not-NotOurs
