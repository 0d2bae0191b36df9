use Rattle.table_order.proofs.Sorted.{ats-more, entries-more, line-of-row}
use Rattle.table_order.proofs.entry.entries.Goals as goal

pub loop-at-preserved : goal.loop-at-preserved
loop-at-preserved c = record {
  rows = ats-more c.loop-at.entries.items c.push.new.self.items c.entry_of.result c.loop-at.at c.in_ok-push.ensures.items c.entry_of.ensures.row c.loop-at.invariant.rows;
  entries = λ rows is. entries-more c.args.order rows c.loop-at.entries.items c.push.new.self.items c.entry_of.result c.loop-at.at _ c.field.result.now c.in_ok-push.ensures.items c.entry_of.ensures.row
      (line-of-row c.args.lines.now rows c.loop-at.at _ c.loop-at-test.true is) c.field.ensures c.entry_of.ensures.entry (c.loop-at.invariant.entries rows is);
}
