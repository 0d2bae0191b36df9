use Rattle.std.proofs.Common.{◌∙◌}
use Rattle.state_file.proofs.Linear.{eight_more}
use Rattle.state_file.proofs.eights.take_eights.Goals as goal

pub loop-turn-preserved : goal.loop-turn-preserved
loop-turn-preserved c =
    eight_more c.loop-turn.register c.eight_in-register.result c.loop-turn.rest.now c.in-Some.eight.now c.in-Some.more.now c.in-Some.ensures.cases.0 c.in-Some.ensures.cases.1 c.eight_in-register.ensures ∙ c.loop-turn.invariant
