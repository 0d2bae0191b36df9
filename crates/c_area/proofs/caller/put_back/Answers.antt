use Rattle.std.proofs.Common.{sym, ap, ◌∙◌}
use Rattle.c_area.specs.declared.shared.Shared.{Shared}
use Rattle.c_area.proofs.caller.put_back.Goals as goal

pub join-requires-clause-here : goal.join-requires-clause-here
join-requires-clause-here c = c.requires.here.0 ∙ sym (ap (λ (x : Shared). x.region) c.deref.ensures)

pub join-requires-clause-other_here : goal.join-requires-clause-other_here
join-requires-clause-other_here c = c.requires.here.1 ∙ (c.requires.here.0 ∙ sym (ap (λ (x : Shared). x.region) c.deref.ensures))
