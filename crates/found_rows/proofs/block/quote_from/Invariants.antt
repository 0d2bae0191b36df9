use Rattle.std.proofs.Common.{◌-◌, length}
use Rattle.found_rows.specs.Masks.{IsBlock, NoneIn, is_quote}
use Rattle.found_rows.proofs.Blocks.{IsSince}
use Rattle.found_rows.proofs.block.quote_from.Given as goal

-- up to the bytes at hand nothing was found
abbrev pub invariant-steps : goal.invariant-steps
invariant-steps l = record {
  block : IsBlock l.text l.block;
  since : IsSince l.block.masks.quotes l.block.base l.from l.mask;
  before : NoneIn is_quote l.text l.from l.block.base;
}

abbrev pub decreases-steps : goal.decreases-steps
decreases-steps l = length l.text - l.block.base
