use Rattle.std.proofs.Common.{◌+◌, arith}
use Rattle.partial_agg.specs.Listed.{listed}
use Rattle.state_whole.proofs.Bounds.{bound_more, past}
use Rattle.state_whole.proofs.rows.bounded.Goals as goal

pub returns-then-sum-le-MOST_ROWS-clause-bound : goal.returns-then-sum-le-MOST_ROWS-clause-bound
returns-then-sum-le-MOST_ROWS-clause-bound c = λ all.
    let few = c.if-sum-le-MOST_ROWS.true in
    let sum = c.saturating_add-sum.ensures in
    bound_more (listed c.args.map.now) (c.args.before + c.args.more) c.saturating_add-sum.result (omega (arith, few, sum)) all

pub returns-else-most-le-MOST_ROWS-clause-past : goal.returns-else-most-le-MOST_ROWS-clause-past
returns-else-most-le-MOST_ROWS-clause-past c =
    let more = c.if-most-le-MOST_ROWS.false in
    past c.most_rows-most.result (listed c.args.map.now) (omega (arith, more)) c.most_rows-most.ensures.reached
