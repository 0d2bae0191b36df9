use Rattle.agg_table.specs.Shown.{use_in}
use Rattle.std.proofs.Common.{subst, sym, List}
use Rattle.scan_claim.specs.Shown.{blocks_of, draws_of}
use Rattle.parallel_ctx.specs.Accounts.{Heard}
use Rattle.parallel_ctx.specs.Tokens.{SameQueues}
use Rattle.parallel_ctx.proofs.Queues.{all_here, same-trans}
use Rattle.parallel_ctx.proofs.Zips.{AllZip-through}
use Rattle.parallel_ctx.proofs.scope.lead_and_leave.Goals as goal

pub leave_all-requires : goal.leave_all-requires
leave_all-requires g c = all_here c.args.shared.now c.args.queues.now c.lead.new.queues c.requires.1.unheard c.lead.ensures.queues

pub returns-clause-queues : goal.returns-clause-queues
returns-clause-queues g c = AllZip-through SameQueues SameQueues SameQueues same-trans c.args.queues.now c.lead.new.queues c.leave_all.new.queues c.lead.ensures.queues c.leave_all.ensures.same

pub returns-clause-led : goal.returns-clause-led
returns-clause-led g c plan has =
    subst (λ (h : List Heard). g.L.Lead.led c.args.lead.now plan (blocks_of c.args.shared.now.claims) (draws_of c.lead.new.seats.claim) (use_in c.lead.new.seats.hash) h c.lead.new.self) (sym c.leave_all.ensures.heard) (c.lead.ensures.led plan has)
