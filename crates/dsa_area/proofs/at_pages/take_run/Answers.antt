use Rattle.std.proofs.Common.{refl}
use Rattle.dsa_area.proofs.Steps.{pages_there, page_event, no_other_take}
use Rattle.dsa_area.proofs.at_pages.take_run.Goals as goal

pub unreachable-requires : goal.unreachable-requires
unreachable-requires g c = no_other_take _ _ _ c.call.result (c.call.ensures.output _ (pages_there c.args.r.now c.args.area.now c.requires.area)) c.in_default.not-Granted c.in_default.not-Refused

pub returns-in-Granted-clause-taken : goal.returns-in-Granted-clause-taken
returns-in-Granted-clause-taken g c = page_event c.args.r.now c.args.area.now _ _ _ _ c.requires.area refl c.in-Granted.ensures.called

pub returns-in-Granted-clause-run : goal.returns-in-Granted-clause-run
returns-in-Granted-clause-run g c = c.in-Granted.ensures.output _ (pages_there c.args.r.now c.args.area.now c.requires.area)

pub returns-in-Refused-clause-refused : goal.returns-in-Refused-clause-refused
returns-in-Refused-clause-refused g c = page_event c.args.r.now c.args.area.now _ _ _ _ c.requires.area refl c.in-Refused.ensures.called
