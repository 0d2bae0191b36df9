use Rattle.std.proofs.Common.{◌∙◌}
use Rattle.par_exchange.proofs.exchange.Exchange.call_with_news.Goals as goal

pub returns-clause-turned : goal.returns-clause-turned
returns-clause-turned g c = λ sign is.
    let t = c.call-answer.ensures.turned sign is in
    let e = c.announce.ensures in
    record { before = t.before; after = t.after; ends = e.seen 0 ∙ t.ends; begins = t.begins; lawful = t.lawful; step = t.step; own = e.mine 0 ∙ t.own; known = t.known; low = t.low }
