use Rattle.std.proofs.Common.{◌<◌, arith, length}
use Rattle.std.proofs.lemmas.List.Elements.{All-set}
use Rattle.parallel_ctx.proofs.Queues.{all-same, same-put}
use Rattle.gather_merge.specs.Hearing.{HasGivenNoRow, IsOpen}
use Rattle.gather_merge.proofs.Stopping.{named_of}
use Rattle.gather_merge.proofs.hearing.hear_early.Goals as goal

pub loop-at-init : goal.loop-at-init
loop-at-init g c = record { same = all-same c.args.queues.now; open_are = c.requires.«open»; unheard = c.requires.unheard }

pub loop-at-preserved : goal.loop-at-preserved
loop-at-preserved g c =
    let qs = c.loop-at.queues in
    let k = c.loop-at.at in
    let q = c.hear_notice-named.new.queue in
    let within : k < length qs = omega (arith, c.loop-at-test.true, c.loop-at.auto.queues) in
    record {
      same = same-put c.args.queues.now qs k c.index-queues-at.result q within c.loop-at.invariant.same c.hear_notice-named.ensures.same;
      open_are = All-set (IsOpen c.args.r.now) qs k q c.hear_notice-named.ensures.«open» c.loop-at.invariant.open_are;
      unheard = All-set HasGivenNoRow qs k q c.hear_notice-named.ensures.unheard c.loop-at.invariant.unheard;
    }

pub returns-then-is_some-clause-same : goal.returns-then-is_some-clause-same
returns-then-is_some-clause-same g c =
    same-put c.args.queues.now c.loop-at.queues c.loop-at.at c.index-queues-at.result c.hear_notice-named.new.queue (omega (arith, c.loop-at-test.true, c.loop-at.auto.queues)) c.loop-at.invariant.same c.hear_notice-named.ensures.same

pub returns-then-is_some-clause-open : goal.returns-then-is_some-clause-open
returns-then-is_some-clause-open g c = All-set (IsOpen c.args.r.now) c.loop-at.queues c.loop-at.at c.hear_notice-named.new.queue c.hear_notice-named.ensures.«open» c.loop-at.invariant.open_are

pub returns-then-is_some-clause-unheard : goal.returns-then-is_some-clause-unheard
returns-then-is_some-clause-unheard g c = All-set HasGivenNoRow c.loop-at.queues c.loop-at.at c.hear_notice-named.new.queue c.hear_notice-named.ensures.unheard c.loop-at.invariant.unheard

pub returns-then-is_some-clause-named : goal.returns-then-is_some-clause-named
returns-then-is_some-clause-named g c =
    named_of c.loop-at.queues c.loop-at.at c.hear_notice-named.new.queue c.hear_notice-named.result (omega (arith, c.loop-at-test.true, c.loop-at.auto.queues)) c.hear_notice-named.ensures.named
