-- The sum of several files in ranges of keys.
use Rattle.std.specs.Prelude.{◌≡◌, [], ℕ, List, map}
use Rattle.partial_agg.specs.Groups.{GroupsByKey}
use Rattle.state_head.specs.declared.cover.Stretch.{Stretch}
use Rattle.state_range.specs.Ranges.{RiseFrom, ranges_from}
use Rattle.state_ranges.specs.Parts.{AreRangesOf, ends_of}
use Rattle.state_ranges.specs.declared.sums.RangeSums.{RangeSums}

-- the groups of the files so far, each in the map of its range, of ranges that are all keys together; and the stretches
pub record AreRangeSums (columns : ℕ) (m : GroupsByKey) (cover : List Stretch) (sums : RangeSums) : Type 0 where
  pub cuts : List (List ℕ)
  pub rise : RiseFrom columns [] cuts
  pub ends : map ends_of sums.ranges.items ≡ ranges_from [] cuts
  pub are_ranges : AreRangesOf columns m sums.ranges.items
  pub cover_is : sums.cover.items ≡ cover
