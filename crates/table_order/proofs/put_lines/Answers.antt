use Rattle.table_order.proofs.Tables.{line-put}
use Rattle.table_order.proofs.put_lines.Goals as goal

pub loop-line-preserved : goal.loop-line-preserved
loop-line-preserved c = line-put c.args.out.now.items c.loop-line.out.items c.extend_from_slice.new.self.items c.args.lines.now c.loop-line.line-index _ c.loop-line-test.true c.loop-line.invariant c.in_ok-extend_from_slice.ensures.items
