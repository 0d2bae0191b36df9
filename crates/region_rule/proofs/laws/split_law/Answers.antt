use Rattle.std.proofs.Common.{ap}
use Rattle.region_rule.proofs.Effected.{cuts}
use Rattle.region_rule.specs.Sound.{World}
use Rattle.region_rule.proofs.laws.split_law.Goals as goal

pub returns : goal.returns
returns c = λ before after i from len s h.
    (h.0, h.1, cuts before after i _ _ _ h.2 h.3, ap (λ (w : World). w.words) h.3)
