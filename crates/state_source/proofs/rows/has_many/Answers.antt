use Rattle.std.proofs.Common.{arith}
use Rattle.state_source.proofs.Many.{not_bounded}
use Rattle.state_source.proofs.rows.has_many.Goals as goal

pub returns-then-state-gt-MOST_ROWS : goal.returns-then-state-gt-MOST_ROWS
returns-then-state-gt-MOST_ROWS c = λ _.
    let more = c.if-state-gt-MOST_ROWS.true in
    not_bounded c.args.map.now c.lent-groups.result c.loop-at.at c.read_state.new.state.rows c.lent-groups.ensures.groups (omega arith) c.read_state.ensures.rows (omega (arith, more))
