use Rattle.std.proofs.Common.{◌≡◌, length, arith, rules}
use Rattle.state_groups.proofs.Places.{no_more, none_read, one_more, whole, whole_written}
use Rattle.state_groups.proofs.group.read_slots.Goals as goal

pub loop-at-init : goal.loop-at-init
loop-at-init c = none_read c.args.bytes.now c.args.kinds.now c.args.rows c.args.slots.now (search rules)

pub returns-in_default-clause-written : goal.returns-in_default-clause-written
returns-in_default-clause-written c =
    no_more c.args.bytes.now c.args.kinds.now c.args.rows c.loop-at.slots c.loop-at.rest.now c.loop-at.at c.loop-at-test.true c.loop-at.invariant c.in_default.ensures.written

pub loop-at-preserved : goal.loop-at-preserved
loop-at-preserved c =
    one_more c.args.bytes.now c.args.kinds.now c.args.rows c.loop-at.slots c.loop-at.rest.now c.loop-at.at c.in-Some.slot c.in-Some.after.now c.loop-at-test.true c.requires.kinds c.loop-at.invariant c.in-Some.ensures.read.0
    c.in-Some.ensures.read.1 c.in-Some.ensures.written

pub returns-clause-read : goal.returns-clause-read
returns-clause-read c =
    let end : c.loop-at.at ≡ length c.args.kinds.now = omega arith in
    whole c.args.bytes.now c.args.kinds.now c.args.rows c.loop-at.slots c.loop-at.rest.now c.loop-at.at end c.loop-at.invariant

pub returns-clause-written : goal.returns-clause-written
returns-clause-written c =
    let end : c.loop-at.at ≡ length c.args.kinds.now = omega arith in
    whole_written c.args.bytes.now c.args.kinds.now c.args.rows c.loop-at.slots c.loop-at.rest.now c.loop-at.at end c.loop-at.invariant
