use Rattle.std.proofs.Common.{ap}
use Rattle.region_rule.proofs.Effected.{turns}
use Rattle.region_rule.specs.Sound.{World}
use Rattle.region_rule.proofs.laws.store_data_law.Goals as goal

pub returns : goal.returns
returns c = λ before after i x s h.
    (h.0, (h.1, turns before after i _ _ h.2 (ap (λ (w : World). w.views) h.7)), ap (λ (w : World). w.words) h.7, h.3, h.4, h.5, h.6)
