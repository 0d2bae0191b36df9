use Rattle.std.proofs.Common.{ap}
use Rattle.region_rule.proofs.Effected.{found_value, turns}
use Rattle.region_rule.specs.Sound.{World}
use Rattle.region_rule.specs.View.{Frozen}
use Rattle.region_rule.proofs.laws.load_frozen_law.Goals as goal

pub returns : goal.returns
returns c = λ before after i k x s h.
    (h.0, turns before after i _ _ h.1 (ap (λ (w : World). w.views) h.3), ap (λ (w : World). w.words) h.3, found_value before.words h.0 k x (s.honest i (Frozen h.0) h.1) h.2)
