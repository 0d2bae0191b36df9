use Rattle.region_rule.specs.View.{Receiver}
use Rattle.std.proofs.Common.{ap}
use Rattle.region_rule.proofs.Effected.{turns}
use Rattle.region_rule.proofs.Partners.{sender_of}
use Rattle.region_rule.specs.Sound.{World}
use Rattle.region_rule.specs.View.{Receiver}
use Rattle.ring_rule.proofs.Receives.{next_is}
use Rattle.region_rule.proofs.laws.load_data_law.Goals as goal

pub returns : goal.returns
returns c = λ before after i x s h.
    let o = sender_of before i h.0 h.1 s h.2 in
    let own = s.honest i (Receiver h.0 h.1) h.2 in
    let next = next_is before.words o.end o.told h.0 h.1 x o.sending own.own o.paired h.4 h.5 in
    (h.0, o.end, (h.1, turns before after i _ _ h.2 (ap (λ (w : World). w.views) h.6)), ap (λ (w : World). w.words) h.6, h.3, h.4, (o.token, o.told, o.there, o.paired.tied.same), next)
