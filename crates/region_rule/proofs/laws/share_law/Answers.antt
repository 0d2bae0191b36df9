use Rattle.std.proofs.Common.{ap}
use Rattle.region_rule.proofs.Effected.{cuts}
use Rattle.region_rule.specs.Sound.{World}
use Rattle.region_rule.proofs.laws.share_law.Goals as goal

pub returns : goal.returns
returns c = λ before after i s h.
    (h.0, cuts before after i _ _ _ h.1 h.2, ap (λ (w : World). w.words) h.2)
