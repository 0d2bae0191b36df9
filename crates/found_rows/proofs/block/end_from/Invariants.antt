use Rattle.std.proofs.Common.{◌-◌, length}
use Rattle.csv_rows.specs.Splits.{is_separator}
use Rattle.found_rows.specs.Masks.{IsBlock, NoneIn}
use Rattle.found_rows.proofs.Blocks.{IsSince}
use Rattle.found_rows.proofs.block.end_from.Given as goal

-- up to the bytes at hand nothing was found
abbrev pub invariant-steps : goal.invariant-steps
invariant-steps l = record {
  block : IsBlock l.text l.block;
  since : IsSince l.block.masks.ends l.block.base l.from l.mask;
  before : NoneIn is_separator l.text l.from l.block.base;
}

abbrev pub decreases-steps : goal.decreases-steps
decreases-steps l = length l.text - l.block.base
