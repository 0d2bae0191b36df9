use Rattle.std.proofs.Common.{◌∙◌, refl}
use Rattle.parallel_ctx.proofs.Queues.{all-same}
use Rattle.gather_merge.proofs.Asked.{all-trans}
use Rattle.gather_merge.proofs.drawing.draw_all.Goals as goal

pub loop-init : goal.loop-init
loop-init g c = record {
  can_next = tt;
  finite = tt;
  seat = c.requires.seat;
  number = refl;
  drawn = c.requires.drawn;
  same = all-same c.args.queues.now;
  open_are = c.requires.«open»;
  unheard = c.requires.unheard;
}

pub loop-preserved : goal.loop-preserved
loop-preserved g c = record {
  can_next = tt;
  finite = tt;
  seat = c.draw_next.ensures.seat.0;
  number = c.draw_next.ensures.seat.1 ∙ c.loop.invariant.number;
  drawn = c.in-Next.ensures.step;
  same = all-trans c.args.queues.now c.loop.queues c.draw_next.new.queues c.loop.invariant.same c.draw_next.ensures.same;
  open_are = c.draw_next.ensures.«open»;
  unheard = c.draw_next.ensures.unheard;
}

pub returns-in-NoMore-clause-same : goal.returns-in-NoMore-clause-same
returns-in-NoMore-clause-same g c = all-trans c.args.queues.now c.loop.queues c.draw_next.new.queues c.loop.invariant.same c.draw_next.ensures.same

pub returns-in-Stopped-clause-same : goal.returns-in-Stopped-clause-same
returns-in-Stopped-clause-same g c = all-trans c.args.queues.now c.loop.queues c.draw_next.new.queues c.loop.invariant.same c.draw_next.ensures.same
