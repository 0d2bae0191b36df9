use Rattle.gather_merge.proofs.Asked.{hears_end, over_is}
use Rattle.gather_merge.proofs.hearing.hear.Goals as goal

pub returns-in-Detached-clause-heard : goal.returns-in-Detached-clause-heard
returns-in-Detached-clause-heard g c =
    let a = c.in-Detached.ensures.answer in
    hears_end c.args.queue.now _ c.hear_end.result a.2 (over_is c.receive.new.self.end a.4.final a.4.empty.1) c.hear_end.ensures.heard
