use Rattle.std.proofs.Common.{refl}
use Rattle.dsa_area.specs.Shown.{pool_name}
use Rattle.dsa_area.proofs.Steps.{pool_there, pool_event, no_other_trim}
use Rattle.dsa_area.proofs.at_pools.trim_pool.Goals as goal

pub returns-in-Emptied-clause-whole : goal.returns-in-Emptied-clause-whole
returns-in-Emptied-clause-whole g c = pool_event c.args.r.now c.args.area.now _ _ c.args.class _ _ _ c.requires.area c.requires.own.one_caller c.requires.class c.place_of.ensures refl c.in-Emptied.ensures.called

pub returns-in-Emptied-clause-run : goal.returns-in-Emptied-clause-run
returns-in-Emptied-clause-run g c = c.in-Emptied.ensures.output _ (pool_there c.args.r.now c.args.area.now c.args.class _ c.requires.area c.requires.class c.place_of.ensures)

pub returns-in-Untouched-clause-kept : goal.returns-in-Untouched-clause-kept
returns-in-Untouched-clause-kept g c = pool_event c.args.r.now c.args.area.now _ _ c.args.class _ _ _ c.requires.area c.requires.own.one_caller c.requires.class c.place_of.ensures refl c.in-Untouched.ensures.called

pub unreachable-requires : goal.unreachable-requires
unreachable-requires g c = no_other_trim (pool_name c.args.r.now c.args.area.now c.args.class) c.call.result (c.call.ensures.output _ (pool_there c.args.r.now c.args.area.now c.args.class _ c.requires.area c.requires.class c.place_of.ensures)) c.in_default.not-Emptied c.in_default.not-Untouched
