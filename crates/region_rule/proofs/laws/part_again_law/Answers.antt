use Rattle.std.proofs.Common.{ap}
use Rattle.region_rule.proofs.Effected.{cuts}
use Rattle.region_rule.specs.Sound.{World}
use Rattle.region_rule.proofs.laws.part_again_law.Goals as goal

pub returns : goal.returns
returns c = λ before after i s h.
    (h.0, h.1, h.2, cuts before after i _ _ _ h.3 h.4, ap (λ (w : World). w.words) h.4)
