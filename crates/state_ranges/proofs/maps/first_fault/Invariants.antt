use Rattle.std.proofs.Common.{◌<◌, ℕ, slice_index_or}
use Rattle.state_ranges.specs.Parts.{IsFilled}
use Rattle.state_ranges.specs.declared.maps.RangeMap.{RangeMap}
use Rattle.state_ranges.proofs.maps.first_fault.Given as goal

abbrev pub invariant-loop-at : goal.invariant-loop-at
invariant-loop-at l = (k : ℕ) (d : RangeMap) → k < l.at → IsFilled (slice_index_or l.ranges k d)
