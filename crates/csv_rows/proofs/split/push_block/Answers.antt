use Rattle.std.proofs.Common.{◌≡◌, rules}
use Rattle.csv_rows.proofs.Bits.{marked-first, marked-next, marked-none}
use Rattle.csv_rows.proofs.split.push_block.Goals as goal

pub marks-init : goal.marks-init
marks-init c = record {
  scan = c.requires.scan;
  marked = marked-first c.args.text.now c.args.at c.args.start.from c.separators-mask.result c.separators-mask.ensures c.requires.low c.requires.before;
}

pub push_mark-requires-clause-before : goal.push_mark-requires-clause-before
push_mark-requires-clause-before c =
    marked-next c.args.text.now c.args.at c.marks.cursor.from c.marks.mask c.lowest-bit.result c.marks.invariant.marked c.lowest-bit.ensures.set c.lowest-bit.ensures.below

pub returns-clause-before : goal.returns-clause-before
returns-clause-before c =
    let none : c.marks.mask ≡ 0 = search rules in
    marked-none c.args.text.now c.args.at c.marks.cursor.from c.marks.mask c.marks.invariant.marked none
