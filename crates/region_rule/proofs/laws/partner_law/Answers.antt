use Rattle.region_rule.proofs.Partners.{receiver_of, sender_of, one_receiver, one_sender}
use Rattle.region_rule.proofs.laws.partner_law.Goals as goal

pub returns-clause-receiver : goal.returns-clause-receiver
returns-clause-receiver c = λ w i s told sound here. let o = receiver_of w i s told sound here in (o.end, (o.token, o.told, o.there, o.paired.tied.same))

pub returns-clause-one_receiver : goal.returns-clause-one_receiver
returns-clause-one_receiver c = one_receiver

pub returns-clause-sender : goal.returns-clause-sender
returns-clause-sender c = λ w i q told sound here. let o = sender_of w i q told sound here in (o.end, (o.token, o.told, o.there, o.paired.tied.same))

pub returns-clause-one_sender : goal.returns-clause-one_sender
returns-clause-one_sender c = one_sender
