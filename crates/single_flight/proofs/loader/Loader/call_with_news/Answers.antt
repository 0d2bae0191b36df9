use Rattle.std.proofs.Common.{◌∙◌}
use Rattle.single_flight.proofs.loader.Loader.call_with_news.Goals as goal

pub returns-clause-called : goal.returns-clause-called
returns-clause-called g c =
    let t = c.call-reply.ensures.called in
    let e = c.announce.ensures in
    record { before = t.before; after = t.after; ends = e.seen _ ∙ t.ends; begins = t.begins; step = t.step; mine_grows = e.mine _ ∙ t.mine_grows; others_seen = λ j ne. e.seen j ∙ t.others_seen j ne; others_mine = λ j ne. e.mine j ∙ t.others_mine j ne }

pub returns-clause-turned : goal.returns-clause-turned
returns-clause-turned g c =
    let t = c.call-reply.ensures.turned in
    let e = c.announce.ensures in
    record { before = t.before; after = t.after; ends = e.seen _ ∙ t.ends; begins = t.begins; lawful = t.lawful; step = t.step; own = e.mine _ ∙ t.own; known = t.known }
