use Rattle.std.proofs.Common.{◌<◌, length, get_or, refl, arith, ◌∙◌}
use Rattle.std.proofs.lemmas.List.Elements.{All-get_or, All-set, AllWithin-more_set, AllWithin-none}
use Rattle.parallel_ctx.specs.Tokens.{AreHere, AreLeftByLead}
use Rattle.parallel_ctx.proofs.Queues.{all-same, heard-put, here-after, same-put}
use Rattle.parallel_ctx.proofs.scope.leave_all.Goals as goal

pub loop-at-init : goal.loop-at-init
loop-at-init c = record { here = c.requires; left = AllWithin-none AreLeftByLead c.args.queues.now 0; same = all-same c.args.queues.now; heard = refl }

pub loop-at-preserved : goal.loop-at-preserved
loop-at-preserved c =
    let qs = c.loop-at.queues in
    let at = c.loop-at.at in
    let one = c.index-queues-at.result in
    let q = c.leave_queue.new.queue in
    let within : at < length qs = omega (arith, c.loop-at-test.true, c.loop-at.auto.queues) in
    record {
      here = All-set (AreHere c.args.r.now) qs at q (here-after c.args.r.now (get_or qs at one) q (All-get_or (AreHere c.args.r.now) qs at one within c.loop-at.invariant.here) c.leave_queue.ensures.same) c.loop-at.invariant.here;
      left = AllWithin-more_set qs at q within AreLeftByLead c.loop-at.invariant.left c.leave_queue.ensures.left;
      same = same-put c.args.queues.now qs at one q within c.loop-at.invariant.same c.leave_queue.ensures.same;
      heard = heard-put qs at one q within c.leave_queue.ensures.heard ∙ c.loop-at.invariant.heard;
    }
