use Rattle.agg_table.specs.Shown.{use_in}
use Rattle.std.proofs.Common.{◌≡◌, length, arith}
use Rattle.parallel_ctx.specs.Returns.{Carries}
use Rattle.parallel_ctx.proofs.Zips.{AllZip-length}
use Rattle.parallel_ctx.proofs.Carried.{all_carried}
use Rattle.std.proofs.Common.{All, subst, sym, ap, map, List}
use Rattle.scan_claim.specs.Shown.{blocks_of, draws_of}
use Rattle.parallel_ctx.specs.Accounts.{Heard, heard}
use Rattle.parallel_ctx.specs.Tokens.{AreLeftByLead, SameQueues}
use Rattle.parallel_ctx.proofs.Queues.{written_back}
use Rattle.parallel_ctx.proofs.scope.in_scope.Goals as goal

pub bring_all-backs-requires-clause-room : goal.bring_all-backs-requires-clause-room
bring_all-backs-requires-clause-room g c κs within =
    let h = c.args.hands in let p = c.launch_all-placed.result in
    let e : length h.items ≡ length p.items = AllZip-length (Carries g.W.Worker.did c.args.worker.now c.args.shared.now) _ _ c.launch_all-placed.ensures in
    omega (arith, e, h.ok.0, p.ok.0, c.requires.ready.backs_room.1)

pub returns-clause-workers : goal.returns-clause-workers
returns-clause-workers g c = all_carried g.W.Worker.did c.args.worker.now c.args.shared.now _ _ _ c.launch_all-placed.ensures c.bring_all-backs.ensures

pub returns-clause-led : goal.returns-clause-led
returns-clause-led g c plan has =
    let new = c.lead_and_leave.new.queues in
    let long = AllZip-length SameQueues c.deref_mut.result.now new c.lead_and_leave.ensures.queues in
    let size : c.args.queues.len ≡ length new = omega (arith, long, c.deref_mut.ensures.len) in
    subst (λ (h : List Heard). g.L.Lead.led c.args.lead.now plan (blocks_of c.args.shared.now.claims) (draws_of c.lead_and_leave.new.leader.claim) (use_in c.lead_and_leave.new.leader.hash) h c.lead_and_leave.new.lead)
    (ap (map heard) (sym (written_back c.args.queues.len new _ size))) (c.lead_and_leave.ensures.led plan has)

pub returns-clause-left : goal.returns-clause-left
returns-clause-left g c =
    let new = c.lead_and_leave.new.queues in
    let long = AllZip-length SameQueues c.deref_mut.result.now new c.lead_and_leave.ensures.queues in
    let size : c.args.queues.len ≡ length new = omega (arith, long, c.deref_mut.ensures.len) in
    subst (All AreLeftByLead) (sym (written_back c.args.queues.len new _ size)) c.lead_and_leave.ensures.left
