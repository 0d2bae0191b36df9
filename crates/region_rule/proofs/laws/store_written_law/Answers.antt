use Rattle.std.proofs.Common.{ap}
use Rattle.region_rule.proofs.Effected.{turns}
use Rattle.region_rule.specs.Sound.{World}
use Rattle.region_rule.proofs.laws.store_written_law.Goals as goal

pub returns : goal.returns
returns c = λ before after i s h. (h.0, (h.1, turns before after i _ _ h.2 (ap (λ (w : World). w.views) h.4)), ap (λ (w : World). w.words) h.4, h.3)
