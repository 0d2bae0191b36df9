use Rattle.std.proofs.Common.{ap}
use Rattle.region_rule.proofs.Effected.{turns}
use Rattle.region_rule.proofs.Partners.{receiver_of, sender_of}
use Rattle.region_rule.specs.Sound.{World}
use Rattle.ring_rule.proofs.Receives.{receiver_finds}
use Rattle.ring_rule.proofs.Sends.{sender_finds}
use Rattle.region_rule.proofs.laws.load_flag_law.Goals as goal

pub returns-clause-sender : goal.returns-clause-sender
returns-clause-sender c = λ before after i x s h.
    let o = receiver_of before i h.0 h.1 s h.2 in
    let is = sender_finds before.words h.0 h.1 o.end o.told x h.3 o.paired h.4 in
    (h.0, o.end, (h.1, turns before after i _ _ h.2 (ap (λ (w : World). w.views) h.5)), ap (λ (w : World). w.words) h.5, h.3, (o.token, o.told, o.there, o.paired.tied.same), is)

pub returns-clause-receiver : goal.returns-clause-receiver
returns-clause-receiver c = λ before after i x s h.
    let o = sender_of before i h.0 h.1 s h.2 in
    let is = receiver_finds before.words o.end o.told h.0 h.1 x h.3 o.paired h.4 in
    (h.0, o.end, (h.1, turns before after i _ _ h.2 (ap (λ (w : World). w.views) h.5)), ap (λ (w : World). w.words) h.5, h.3, (o.token, o.told, o.there, o.paired.tied.same), is)
