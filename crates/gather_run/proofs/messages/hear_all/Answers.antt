use Rattle.std.proofs.Common.{◌≡◌, ◌<◌, ◌∙◌, sym, length, get_or, arith, Any, true, false}
use Rattle.std.proofs.lemmas.List.Quantifiers.{any-set}
use Rattle.std.proofs.lemmas.List.Elements.{All-set, AllWithin-more_set, AllWithin-none}
use Rattle.mq_handle.specs.Messages.{whole_of}
use Rattle.parallel_ctx.proofs.Queues.{all-same, same-put}
use Rattle.parallel_ctx.specs.declared.tokens.LeaderEnds.{LeaderEnds}
use Rattle.gather_run.specs.Looks.{IsOpen, IsOverQueue, Takes}
use Rattle.worker_run.specs.Notices.{ReadsRow}
use Rattle.gather_run.proofs.Looking.{leading_after}
use Rattle.gather_run.proofs.messages.hear_all.Goals as goal
use Rattle.gather_run.proofs.messages.hear_all.Goals.{in-Ended, in-More}

pub loop-at-init : goal.loop-at-init
loop-at-init g c = record { open_are = c.requires; same = all-same c.args.queues.now; over = record { each = λ e. AllWithin-none IsOverQueue c.args.queues.now 0 }; leading = λ p r d u l. l }

pub returns-in-NoRoom-clause-same : goal.returns-in-NoRoom-clause-same
returns-in-NoRoom-clause-same g c =
    same-put c.args.queues.now c.loop-at.queues c.loop-at.at c.index-queues-at.result c.hear.new.queue (omega (arith, c.loop-at-test.true, c.loop-at.auto.queues)) c.loop-at.invariant.same c.hear.ensures.same

pub returns-in-Names-clause-same : goal.returns-in-Names-clause-same
returns-in-Names-clause-same g c =
    same-put c.args.queues.now c.loop-at.queues c.loop-at.at c.index-queues-at.result c.hear.new.queue (omega (arith, c.loop-at-test.true, c.loop-at.auto.queues)) c.loop-at.invariant.same c.hear.ensures.same

pub returns-in-Names-clause-heard : goal.returns-in-Names-clause-heard
returns-in-Names-clause-heard g c =
    any-set (λ (q : LeaderEnds). Any (ReadsRow c.in-Names.row c.in-Names.cause c.in-Names.item) (whole_of q.errors.end.taken)) c.loop-at.queues c.loop-at.at c.hear.new.queue
    (omega (arith, c.loop-at-test.true, c.loop-at.auto.queues)) c.in-Names.ensures.heard

pub loop-at-preserved : goal.loop-at-preserved
loop-at-preserved g c =
    let qs = c.loop-at.queues in
    let k = c.loop-at.at in
    let one = c.index-queues-at.result in
    let q = c.hear.new.queue in
    let within : k < length qs = omega (arith, c.loop-at-test.true, c.loop-at.auto.queues) in
    let takes : Takes (get_or qs k one).tuples.end q.tuples.end c.loop-at.groups c.hear.new.groups =
    elim c.match-hear.branch [ in-Ended w ↦ w.in-Ended.ensures.heard.0 | in-More w ↦ w.in-More.ensures.heard ] in
    record {
      open_are = All-set (IsOpen c.args.r.now) qs k q c.hear.ensures.«open» c.loop-at.invariant.open_are;
      same = same-put c.args.queues.now qs k one q within c.loop-at.invariant.same c.hear.ensures.same;
      over = elim c.match-hear.branch [
        | in-Ended w ↦ record { each = λ e. AllWithin-more_set qs k q within IsOverQueue (c.loop-at.invariant.over.each (sym w.over-is ∙ e)) w.in-Ended.ensures.heard.1 }
        | in-More w ↦ record { each = λ e. let no : false ≡ true = sym w.over-is ∙ e in cc }
      ];
      leading = λ plan records draws used l. leading_after qs k one q c.loop-at.groups c.hear.new.groups within takes plan records draws used (c.loop-at.invariant.leading plan records draws used l);
    }
