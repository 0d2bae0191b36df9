use Rattle.std.proofs.Common.{◌∙◌, refl}
use Rattle.gather_run.proofs.Looking.{takes_more, takes_none}
use Rattle.gather_run.proofs.messages.take_tuples.Goals as goal

pub loop-init : goal.loop-init
loop-init c = record { region = refl; ring = refl; stays = c.requires.stays; takes = takes_none c.args.tuples.now.end c.args.tuples.now.end c.args.groups.now c.args.groups.now refl refl }

pub returns-in-Over-clause-look : goal.returns-in-Over-clause-look
returns-in-Over-clause-look c =
    (takes_more c.args.tuples.now.end c.loop.tuples.end c.take_next.new.tuples.end c.args.groups.now c.loop.groups c.take_next.new.groups c.loop.invariant.takes c.in-Over.ensures.look.0, c.in-Over.ensures.look.1)

pub returns-in-More-false-clause-look : goal.returns-in-More-false-clause-look
returns-in-More-false-clause-look c = takes_more c.args.tuples.now.end c.loop.tuples.end c.take_next.new.tuples.end c.args.groups.now c.loop.groups c.take_next.new.groups c.loop.invariant.takes c.in-More-false.ensures.look

pub loop-preserved : goal.loop-preserved
loop-preserved c =
    let i = c.loop.invariant in
    let e = c.in-More-true.ensures in
    record {
      region = e.region ∙ i.region;
      ring = e.ring ∙ i.ring;
      stays = e.stays;
      takes = takes_more c.args.tuples.now.end c.loop.tuples.end c.take_next.new.tuples.end c.args.groups.now c.loop.groups c.take_next.new.groups i.takes e.look;
    }
