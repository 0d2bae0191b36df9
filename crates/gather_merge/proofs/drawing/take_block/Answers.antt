use Rattle.std.proofs.Common.{◌≡◌, ◌<◌, ◌≤◌, ◌+◌, ◌*◌, ◌++◌, ◌∷◌, [], ◌∙◌, length, arith, sym}
use Rattle.row_blocks.specs.Blocks.{block_rows}
use Rattle.row_blocks.proofs.BlockRows.{length-block}
use Rattle.gather_merge.proofs.Taking.{taken_all, taken_more}
use Rattle.gather_merge.proofs.drawing.take_block.Goals as goal

pub loop-at-preserved : goal.loop-at-preserved
loop-at-preserved c =
    let at = c.loop-at.at in
    let row = 256 * c.args.block + 1 + at in
    let within : at < length (block_rows c.args.rows.now c.args.block) = omega (arith, length-block c.args.rows.now c.args.block, c.loop-at-test.true, c.count-last.ensures.rows, c.min-count.ensures) in
    let pushed : c.push.new.self.items ≡ c.loop-at.list.items ++ row ∷ [] = rw c.if-is_err.ensures.negation at c.push.ensures.items in
    taken_more c.args.plan.now c.args.rows.now c.args.block at row c.args.list.now.items c.loop-at.list.items c.push.new.self.items (omega arith) within c.loop-at.invariant
    (sym c.refusal.ensures ∙ c.in_default.is) pushed

pub returns-clause-taken : goal.returns-clause-taken
returns-clause-taken c =
    let long : length (block_rows c.args.rows.now c.args.block) ≤ c.loop-at.at = omega (arith, length-block c.args.rows.now c.args.block, c.loop-at-test.false, c.count-last.ensures.rows, c.min-count.ensures) in
    (taken_all c.args.plan.now c.args.rows.now c.args.block c.loop-at.at c.args.list.now.items c.loop-at.list.items long c.loop-at.invariant).0

pub returns-clause-accepted : goal.returns-clause-accepted
returns-clause-accepted c =
    let long : length (block_rows c.args.rows.now c.args.block) ≤ c.loop-at.at = omega (arith, length-block c.args.rows.now c.args.block, c.loop-at-test.false, c.count-last.ensures.rows, c.min-count.ensures) in
    (taken_all c.args.plan.now c.args.rows.now c.args.block c.loop-at.at c.args.list.now.items c.loop-at.list.items long c.loop-at.invariant).1
