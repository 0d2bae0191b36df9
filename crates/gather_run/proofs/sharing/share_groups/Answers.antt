use Rattle.agg_table.specs.Shown.{use_of}
use Rattle.agg_table.proofs.Seats.{grew_itself, grew_through}
use Rattle.gather_run.proofs.Shares.{sharing-end, sharing-start, sharing-step}
use Rattle.gather_run.proofs.sharing.share_groups.Goals as goal

pub loop-init : goal.loop-init
loop-init g c = record {
  can_next = tt;
  finite = tt;
  seat = c.requires.seat;
  grew = grew_itself c.args.seat.now;
  sharing = sharing-start c.args.kept.now (use_of c.args.seat.now) c.args.groups.now;
}

pub loop-preserved : goal.loop-preserved
loop-preserved g c = record {
  can_next = tt;
  finite = tt;
  seat = c.share_group.ensures.seat.0;
  grew = grew_through c.args.seat.now c.loop.seat c.share_group.new.seat c.loop.invariant.grew c.share_group.ensures.seat.1;
  sharing = sharing-step c.args.kept.now c.loop.kept c.take_first.new.self (use_of c.args.seat.now) (use_of c.loop.seat) (use_of c.share_group.new.seat) c.args.groups.now c.loop.groups c.share_group.new.groups _ c.loop.invariant.sharing
      c.in-Some-take_first.ensures.first c.in_ok-share_group.ensures.shared;
}

pub returns-in_default-clause-shared : goal.returns-in_default-clause-shared
returns-in_default-clause-shared g c =
    sharing-end c.args.kept.now c.loop.kept (use_of c.args.seat.now) (use_of c.loop.seat) c.args.groups.now c.loop.groups c.loop.invariant.sharing c.in_default.ensures.none

pub returns-in_err-share_group-clause-seat : goal.returns-in_err-share_group-clause-seat
returns-in_err-share_group-clause-seat g c = (c.share_group.ensures.seat.0, grew_through c.args.seat.now c.loop.seat c.share_group.new.seat c.loop.invariant.grew c.share_group.ensures.seat.1)
