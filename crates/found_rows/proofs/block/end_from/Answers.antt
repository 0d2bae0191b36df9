use Rattle.std.proofs.Common.{◌≡◌, arith, sym, subst, refl, rules}
use Rattle.csv_rows.specs.Splits.{is_separator}
use Rattle.found_rows.specs.Masks.{NoneIn}
use Rattle.found_rows.proofs.Blocks.{first-bit, first-end, none-in-block, since-base}
use Rattle.found_rows.proofs.block.end_from.Goals as goal

pub steps-init : goal.steps-init
steps-init c = record {
  block = c.requires.block;
  since = since-base c.args.block.now.masks.ends c.args.block.now.base c.args.from _ c.since-mask.result refl c.since-mask.ensures.kept c.since-mask.ensures.no_more;
  before = λ j low high. absurd (omega (arith, low, high, c.requires.reached));
}

pub steps-preserved : goal.steps-preserved
steps-preserved c =
    let inv = c.steps.invariant in
    let none : c.steps.mask ≡ 0 = search rules in
    let before = none-in-block is_separator c.args.text.now c.steps.block.masks.ends c.steps.block.base c.args.from c.steps.mask inv.block.ends inv.since inv.before none in
    record {
      block = c.block_at.ensures.block;
      since = since-base c.block_at.result.masks.ends c.block_at.result.base c.args.from _ c.since-mask-in-steps.result (search rules) c.since-mask-in-steps.ensures.kept c.since-mask-in-steps.ensures.no_more;
      before = subst (λ n. NoneIn is_separator c.args.text.now c.args.from n) (sym c.block_at.ensures.base) before;
    }

pub returns-then-text-block-le-BLOCK-clause-first : goal.returns-then-text-block-le-BLOCK-clause-first
returns-then-text-block-le-BLOCK-clause-first c =
    let inv = c.steps.invariant in
    let none : c.steps.mask ≡ 0 = search rules in
    first-end is_separator c.args.text.now c.steps.block.masks.ends c.steps.block.base c.args.from c.steps.mask inv.block.ends inv.since inv.before none (omega arith) c.requires.within

pub returns-clause-first : goal.returns-clause-first
returns-clause-first c =
    let inv = c.steps.invariant in
    first-bit is_separator c.args.text.now c.steps.block.masks.ends c.steps.block.base c.args.from c.steps.mask inv.block.ends inv.since inv.before c.lowest.result refl c.lowest.ensures.set c.lowest.ensures.below
