use Rattle.std.proofs.Common.{refl}
use Rattle.c_area.specs.States.{TrimClass}
use Rattle.c_area.specs.declared.locked.AreaAnswer.TheVariants.{Gone, Left}
use Rattle.c_area.proofs.Turns.{told, turn_chunks, turn_share, turn_stays}
use Rattle.c_area.proofs.caller.trim_class.Goals as goal

pub returns-in-Ok-Gone-clause-share : goal.returns-in-Ok-Gone-clause-share
returns-in-Ok-Gone-clause-share c = turn_share c.args.share.now c.args.share.now.chunks c.ask_area.new.share (λ i. refl) c.ask_area.ensures.rest c.requires.share c.ask_area.ensures.own.0

pub returns-in-Ok-Gone-clause-trims : goal.returns-in-Ok-Gone-clause-trims
returns-in-Ok-Gone-clause-trims c =
    let s = c.args.share.now in
    let u = c.ask_area.new.share in
    (turn_stays s s.chunks u (λ i. refl) c.ask_area.ensures.rest c.ask_area.ensures.own.1, told s u (TrimClass c.args.class) c.in-Ok-Gone.field-0 Gone c.in-Ok-Gone.field-0-is c.in-Ok-Gone.ensures.made, turn_chunks s s.chunks u (λ i. refl) c.ask_area.ensures.rest)

pub returns-in-Ok-Left-clause-share : goal.returns-in-Ok-Left-clause-share
returns-in-Ok-Left-clause-share c = turn_share c.args.share.now c.args.share.now.chunks c.ask_area.new.share (λ i. refl) c.ask_area.ensures.rest c.requires.share c.ask_area.ensures.own.0

pub returns-in-Ok-Left-clause-trims : goal.returns-in-Ok-Left-clause-trims
returns-in-Ok-Left-clause-trims c =
    let s = c.args.share.now in
    let u = c.ask_area.new.share in
    (turn_stays s s.chunks u (λ i. refl) c.ask_area.ensures.rest c.ask_area.ensures.own.1, told s u (TrimClass c.args.class) c.in-Ok-Left.field-0 Left c.in-Ok-Left.field-0-is c.in-Ok-Left.ensures.made, turn_chunks s s.chunks u (λ i. refl) c.ask_area.ensures.rest)

pub returns-clause-share : goal.returns-clause-share
returns-clause-share c = turn_share c.args.share.now c.args.share.now.chunks c.ask_area.new.share (λ i. refl) c.ask_area.ensures.rest c.requires.share c.ask_area.ensures.own.0
