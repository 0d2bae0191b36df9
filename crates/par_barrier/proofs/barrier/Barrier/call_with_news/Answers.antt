use Rattle.std.proofs.Common.{◌∙◌}
use Rattle.par_barrier.proofs.barrier.Barrier.call_with_news.Goals as goal

pub returns-clause-called : goal.returns-clause-called
returns-clause-called g c =
    let a = c.call-reply.ensures.called in
    let e = c.announce_end.ensures.same in
    record { before = a.before; after = a.after; ends = e.0 ∙ a.ends; begins = a.begins; step = a.step; own = e.1 ∙ a.own }
