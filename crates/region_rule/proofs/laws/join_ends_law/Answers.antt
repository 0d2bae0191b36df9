use Rattle.std.proofs.Common.{ap}
use Rattle.region_rule.proofs.Effected.{joins}
use Rattle.region_rule.proofs.Partners.{are_paired}
use Rattle.region_rule.specs.Sound.{World}
use Rattle.region_rule.specs.View.{Receiver, Sender}
use Rattle.region_rule.proofs.laws.join_ends_law.Goals as goal

pub returns : goal.returns
returns c = λ before after i j s h.
    (h.0, h.1, h.2, h.3, joins before after i j _ _ _ h.4 h.5 h.7 h.8, ap (λ (w : World). w.words) h.8, record { sender = (s.honest i (Sender h.0 h.1) h.4).own; receiver = (s.honest j (Receiver h.2 h.3) h.5).own; tied = (are_paired before i j h.0 h.1 h.2 h.3 s h.4 h.5 h.6).tied })
