use Rattle.std.proofs.Common.{ap}
use Rattle.region_rule.proofs.Effected.{cuts}
use Rattle.region_rule.specs.Sound.{World}
use Rattle.region_rule.proofs.laws.make_ring_law.Goals as goal

pub returns : goal.returns
returns c = λ before after i r s h.
    (h.0, h.1, cuts before after i _ _ _ h.2 h.4, ap (λ (w : World). w.words) h.4, h.3)
