use Rattle.std.proofs.Common.{ap}
use Rattle.region_rule.proofs.Effected.{joins}
use Rattle.region_rule.specs.Sound.{World}
use Rattle.region_rule.proofs.laws.gather_law.Goals as goal

pub returns : goal.returns
returns c = λ before after i j s h.
    (h.0, h.1, joins before after i j _ _ _ h.2 h.3 h.4 h.5, ap (λ (w : World). w.words) h.5)
