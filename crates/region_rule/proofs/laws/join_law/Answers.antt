use Rattle.std.proofs.Common.{sym, ap}
use Rattle.region_rule.proofs.Effected.{joins}
use Rattle.region_rule.specs.Sound.{World}
use Rattle.region_rule.specs.View.{Own}
use Rattle.region_rule.proofs.laws.join_law.Goals as goal

pub returns : goal.returns
returns c = λ before after i j s h.
    (h.0, h.1, h.2, h.3, joins before after i j _ _ _ h.4 h.5 h.6 h.7, ap (λ (w : World). w.words) h.7, λ k x y a b. s.apart i j (Own h.0 h.2) (Own h.1 h.3) (λ e. h.6 (sym e)) h.4 h.5 k (x, a) (y, b))
