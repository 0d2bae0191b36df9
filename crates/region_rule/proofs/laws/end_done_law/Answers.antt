use Rattle.std.proofs.Common.{ap}
use Rattle.region_rule.proofs.Effected.{turns}
use Rattle.region_rule.specs.Sound.{World}
use Rattle.region_rule.specs.View.{Done}
use Rattle.region_rule.proofs.laws.end_done_law.Goals as goal

pub returns : goal.returns
returns c = λ before after i k x s h.
    (h.0, h.1, h.2, turns before after i _ _ h.3 (ap (λ (w : World). w.views) h.5), ap (λ (w : World). w.words) h.5, (s.honest i (Done h.0 h.1 h.2) h.3).1)
