use Rattle.parallel_ctx.proofs.Queues.{all-same}
use Rattle.gather_run.proofs.Looking.{all-trans}
use Rattle.gather_run.proofs.messages.hear_out.Goals as goal

pub loop-init : goal.loop-init
loop-init g c = record { can_next = tt; finite = tt; open_are = c.requires; same = all-same c.args.queues.now; leading = λ p r d u l. l }

pub loop-preserved : goal.loop-preserved
loop-preserved g c = record {
  can_next = tt;
  finite = tt;
  open_are = c.hear_all.ensures.«open»;
  same = all-trans c.args.queues.now c.loop.queues c.hear_all.new.queues c.loop.invariant.same c.hear_all.ensures.same;
  leading = λ p r d u l. c.in-More-false.ensures.heard p r d u (c.loop.invariant.leading p r d u l);
}

pub loop-preserved-in-More-true : goal.loop-preserved-in-More-true
loop-preserved-in-More-true g c = record {
  can_next = tt;
  finite = tt;
  open_are = c.hear_all.ensures.«open»;
  same = all-trans c.args.queues.now c.loop.queues c.hear_all.new.queues c.loop.invariant.same c.hear_all.ensures.same;
  leading = λ p r d u l. c.in-More-true.ensures.heard p r d u (c.loop.invariant.leading p r d u l);
}

pub returns-in-Ended-clause-same : goal.returns-in-Ended-clause-same
returns-in-Ended-clause-same g c = all-trans c.args.queues.now c.loop.queues c.hear_all.new.queues c.loop.invariant.same c.hear_all.ensures.same

pub returns-in-NoRoom-clause-same : goal.returns-in-NoRoom-clause-same
returns-in-NoRoom-clause-same g c = all-trans c.args.queues.now c.loop.queues c.hear_all.new.queues c.loop.invariant.same c.hear_all.ensures.same

pub returns-in-Names-clause-same : goal.returns-in-Names-clause-same
returns-in-Names-clause-same g c = all-trans c.args.queues.now c.loop.queues c.hear_all.new.queues c.loop.invariant.same c.hear_all.ensures.same
