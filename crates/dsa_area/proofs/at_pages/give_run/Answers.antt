use Rattle.std.proofs.Common.{refl}
use Rattle.dsa_area.specs.Shown.{pages_name}
use Rattle.dsa_area.proofs.Steps.{pages_there, page_event, no_other_give}
use Rattle.dsa_area.proofs.at_pages.give_run.Goals as goal

pub unreachable-requires : goal.unreachable-requires
unreachable-requires g c = no_other_give (pages_name c.args.r.now c.args.area.now) c.args.run c.call.result (c.call.ensures.output _ (pages_there c.args.r.now c.args.area.now c.requires.area)) c.in_default.not-Returned c.in_default.not-Back

pub returns-in-Returned-clause-given : goal.returns-in-Returned-clause-given
returns-in-Returned-clause-given g c = page_event c.args.r.now c.args.area.now _ _ _ _ c.requires.area refl c.in-Returned.ensures.called

pub returns-in-Back-clause-refused : goal.returns-in-Back-clause-refused
returns-in-Back-clause-refused g c = page_event c.args.r.now c.args.area.now _ _ _ _ c.requires.area refl c.in-Back.ensures.called

pub returns-in-Back-clause-back : goal.returns-in-Back-clause-back
returns-in-Back-clause-back g c = c.in-Back.ensures.output _ (pages_there c.args.r.now c.args.area.now c.requires.area)
