use Rattle.std.proofs.Common.{◌≡◌, ◌++◌, [], drop, map}
use Rattle.std.specs.FinMap as finite
use Rattle.state_range.specs.Ranges.{ranges_from}
use Rattle.state_ranges.specs.Parts.{AreRangesOf, bytes_of, ends_of}
use Rattle.state_ranges.proofs.maps.ranges_between.Given as goal

abbrev pub invariant-loop-at : goal.invariant-loop-at
invariant-loop-at l =
    (map ends_of l.ranges.items ++ ranges_from l.low (map bytes_of (drop l.at l.cuts)) ≡ ranges_from [] (map bytes_of l.cuts)) × AreRangesOf l.columns finite.empty l.ranges.items
