use Rattle.std.proofs.Common.{refl}
use Rattle.c_area.specs.States.{LookAt}
use Rattle.c_area.proofs.Turns.{told, turn_chunks, turn_share, turn_stays}
use Rattle.c_area.proofs.caller.look.Goals as goal

pub returns-in-Ok-Used-clause-share : goal.returns-in-Ok-Used-clause-share
returns-in-Ok-Used-clause-share c = turn_share c.args.share.now c.args.share.now.chunks c.ask_area.new.share (λ i. refl) c.ask_area.ensures.rest c.requires.share c.ask_area.ensures.own.0

pub returns-in-Ok-Used-clause-looks : goal.returns-in-Ok-Used-clause-looks
returns-in-Ok-Used-clause-looks c =
    let s = c.args.share.now in
    let u = c.ask_area.new.share in
    (turn_stays s s.chunks u (λ i. refl) c.ask_area.ensures.rest c.ask_area.ensures.own.1, told s u LookAt c.in-Ok-Used.field-0 _ c.in-Ok-Used.field-0-is c.in-Ok-Used.ensures.made, turn_chunks s s.chunks u (λ i. refl) c.ask_area.ensures.rest)

pub returns-clause-share : goal.returns-clause-share
returns-clause-share c = turn_share c.args.share.now c.args.share.now.chunks c.ask_area.new.share (λ i. refl) c.ask_area.ensures.rest c.requires.share c.ask_area.ensures.own.0
