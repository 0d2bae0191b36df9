use Rattle.std.proofs.Common.{◌<◌, ◌≡◌, arith, length}
use Rattle.state_finalize.proofs.Printing.{groups_all, groups_more, groups_not}
use Rattle.state_finalize.proofs.finishing.are_small.Goals as goal

pub returns-then-not-are_small_slots-clause-not_small : goal.returns-then-not-are_small_slots-clause-not_small
returns-then-not-are_small_slots-clause-not_small c =
    let lt : c.loop-at.at < length c.args.groups.now = omega arith in
    λ _ all. groups_not c.args.groups.now c.loop-at.at c.state-state.result c.state-state.ensures lt (c.are_small_slots.ensures.not_small c.if-not-are_small_slots.true) all

pub loop-at-preserved : goal.loop-at-preserved
loop-at-preserved c =
    let lt : c.loop-at.at < length c.args.groups.now = omega arith in
    groups_more c.args.groups.now c.loop-at.at c.state-state.result c.state-state.ensures lt c.loop-at.invariant (c.are_small_slots.ensures.small c.if-not-are_small_slots.false)

pub returns-clause-small : goal.returns-clause-small
returns-clause-small c =
    let end : c.loop-at.at ≡ length c.args.groups.now = omega arith in
    λ _. groups_all c.args.groups.now c.loop-at.at end c.loop-at.invariant
