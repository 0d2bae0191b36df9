use Rattle.std.proofs.Common.{◌≡◌, ◌+◌, rules}
use Rattle.tile_source.proofs.Marks.{marked-first, marked-next, marked-none, quote-within}
use Rattle.tile_source.proofs.scan.scan_block.Goals as goal

pub marks-init : goal.marks-init
marks-init c = record {
  scanned = c.requires.scanned;
  marked = marked-first c.args.text.now c.args.at c.args.before.from c.quotes-mask.result c.quotes-mask.ensures c.requires.low c.requires.clear;
}

pub past-cursor-requires-clause-low : goal.past-cursor-requires-clause-low
past-cursor-requires-clause-low c = (c.marks.invariant.marked.only c.lowest-bit.result c.lowest-bit.ensures.set).1

pub past-cursor-requires-clause-within : goal.past-cursor-requires-clause-within
past-cursor-requires-clause-within c = quote-within c.args.text.now (c.args.at + c.lowest-bit.result) (c.marks.invariant.marked.only c.lowest-bit.result c.lowest-bit.ensures.set).2

pub past-cursor-requires-clause-quote : goal.past-cursor-requires-clause-quote
past-cursor-requires-clause-quote c = (c.marks.invariant.marked.only c.lowest-bit.result c.lowest-bit.ensures.set).2

pub past-cursor-requires-clause-clear : goal.past-cursor-requires-clause-clear
past-cursor-requires-clause-clear c = marked-next c.args.text.now c.args.at c.marks.cursor.from c.marks.mask c.lowest-bit.result c.marks.invariant.marked c.lowest-bit.ensures.set c.lowest-bit.ensures.below

pub returns-clause-clear : goal.returns-clause-clear
returns-clause-clear c =
    let none : c.marks.mask ≡ 0 = search rules in
    marked-none c.args.text.now c.args.at c.marks.cursor.from c.marks.mask c.marks.invariant.marked none
