use Rattle.std.proofs.Common.{◌≡◌, ◌≤◌, ◌-◌, ℕ, Bool, List, length, true}
use Rattle.partial_agg.specs.Blocks.{AddedFirst}
use Rattle.partial_agg.specs.Groups.{GroupsByKey}
use Rattle.partial_agg.specs.Lanes.{states_in}
use Rattle.partial_agg.specs.Placed.{IsGrouped, groups_at, places_of}
use Rattle.partial_agg.proofs.run.add_near.Given as goal

abbrev pub invariant-rows : goal.invariant-rows
invariant-rows l = record {
  from : l.from ≤ l.at;
  within : l.at ≤ l.count;
  counts : length l.counts ≡ length l.fn.counts;
  lanes : length l.lanes ≡ length l.fn.lanes;
  added : (left : List ℕ) (sorted : Bool) (start : GroupsByKey) → IsGrouped l.keys (length l.fn.counts) left true sorted
      → AddedFirst l.plan l.rows l.block l.from start (groups_at (places_of l.keys left) (states_in l.layout l.fn.counts l.fn.lanes))
      → AddedFirst l.plan l.rows l.block l.at start (groups_at (places_of l.keys left) (states_in l.layout l.counts l.lanes));
}

abbrev pub decreases-rows : goal.decreases-rows
decreases-rows l = l.count - l.at
