use Rattle.std.proofs.Common.{length}
use Rattle.result_text.specs.GroupOrder.{line_of}
use Rattle.result_text.specs.Text.{line_record}
use Rattle.result_text.proofs.Tables.{table-more, table-none}
use Rattle.state_range.proofs.text.push_each.Goals as goal

pub loop-at-init : goal.loop-at-init
loop-at-init c = table-none c.args.text.now.items

pub loop-at-preserved : goal.loop-at-preserved
loop-at-preserved c =
    let plan = c.args.bound.now in
    table-more (line_record plan) (line_of (length plan.groups) c.args.groups.now) c.args.refs.now c.loop-at.at _ c.args.text.now.items c.loop-at.text.items c.push_one.new.text.items c.loop-at-test.true c.loop-at.invariant c.in_ok-push_one.ensures
