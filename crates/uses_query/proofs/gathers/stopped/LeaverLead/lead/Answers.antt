use Rattle.std.proofs.lemmas.List.Elements.{All-weaker}
use Rattle.parallel_ctx.specs.Tokens.{AreHere, AreUnheard}
use Rattle.uses_query.proofs.gathers.stopped.LeaverLead.lead.Goals as goal

pub leave_first-requires : goal.leave_first-requires
leave_first-requires g c =
    let w = c.args.shared.now in
    All-weaker (AreUnheard w) (AreHere w.region) (λ q u. record { errors = u.errors.here; tuples = u.tuples.here }) c.args.queues.now c.requires.1.unheard
