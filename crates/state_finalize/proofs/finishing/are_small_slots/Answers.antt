use Rattle.std.proofs.Common.{◌≡◌, arith, length}
use Rattle.std.proofs.lemmas.List.{get_or_default}
use Rattle.state_finalize.proofs.Printing.{slots_all, slots_more}
use Rattle.state_finalize.proofs.finishing.are_small_slots.Goals as goal

pub loop-at-preserved : goal.loop-at-preserved
loop-at-preserved c =
    slots_more c.args.slots.now c.loop-at.at _ (λ d. get_or_default c.args.slots.now c.loop-at.at _ d c.loop-at-test.true) c.loop-at-test.true c.loop-at.invariant (c.is_small.ensures.small c.if-not-is_small.false)

pub returns-clause-small : goal.returns-clause-small
returns-clause-small c =
    let end : c.loop-at.at ≡ length c.args.slots.now = omega arith in
    λ _. slots_all c.args.slots.now c.loop-at.at end c.loop-at.invariant
