use Rattle.std.proofs.Common.{◌≡◌, rules}
use Rattle.row_windows.proofs.Marks.{left-first, left-next, left-none}
use Rattle.row_windows.proofs.quotes.past_block.Goals as goal

pub marks-init : goal.marks-init
marks-init c = record {
  scan = c.requires.scan;
  left = left-first c.args.text.now c.args.base c.args.start.at c.quotes_at-mask.result c.quotes_at-mask.ensures c.requires.low c.requires.before;
}

pub past_next-scan-requires-clause-before : goal.past_next-scan-requires-clause-before
past_next-scan-requires-clause-before c =
    left-next c.args.text.now c.args.base c.marks.scan.at c.marks.mask c.lowest-bit.result c.marks.invariant.left c.lowest-bit.ensures.set c.lowest-bit.ensures.below

pub returns-clause-before : goal.returns-clause-before
returns-clause-before c =
    let none : c.marks.mask ≡ 0 = search rules in
    left-none c.args.text.now c.args.base c.marks.scan.at c.marks.mask c.marks.invariant.left none
