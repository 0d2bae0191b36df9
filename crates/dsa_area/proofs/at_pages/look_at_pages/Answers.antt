use Rattle.std.proofs.Common.{refl}
use Rattle.dsa_area.specs.Shown.{pages_name}
use Rattle.dsa_area.proofs.Steps.{pages_there, page_event, no_other_look}
use Rattle.dsa_area.proofs.at_pages.look_at_pages.Goals as goal

pub unreachable-requires : goal.unreachable-requires
unreachable-requires g c = no_other_look (pages_name c.args.r.now c.args.area.now) c.call.result (c.call.ensures.output _ (pages_there c.args.r.now c.args.area.now c.requires.area)) c.in_default.not-Seen

pub returns-clause-shown : goal.returns-clause-shown
returns-clause-shown g c = page_event c.args.r.now c.args.area.now _ _ _ _ c.requires.area refl c.in-Seen.ensures.called
