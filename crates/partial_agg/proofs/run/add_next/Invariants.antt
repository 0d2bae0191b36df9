use Rattle.std.proofs.Common.{◌≡◌, ◌≤◌, ◌+◌, ℕ, Bool, List, drop, length, true}
use Rattle.partial_agg.specs.Cursor.{AddedSome}
use Rattle.partial_agg.specs.Groups.{GroupsByKey}
use Rattle.partial_agg.specs.Lanes.{states_in}
use Rattle.partial_agg.specs.Placed.{IsGrouped, groups_at, places_of}
use Rattle.partial_agg.proofs.run.add_next.Given as goal

abbrev pub invariant-rows : goal.invariant-rows
invariant-rows g l = record {
  counts : length l.counts ≡ length l.fn.counts;
  lanes : length l.lanes ≡ length l.fn.lanes;
  rises : l.fn.count ≤ l.count;
  few : l.count + length (g.C.RowCursor.left l.cursor) ≡ l.fn.count + length (g.C.RowCursor.left l.fn.cursor);
  rest : (all : List (List (List ℕ))) → g.C.RowCursor.left l.fn.cursor ≡ drop l.fn.count all → g.C.RowCursor.left l.cursor ≡ drop l.count all;
  added : (left : List ℕ) (sorted : Bool) (start : GroupsByKey) (all : List (List (List ℕ))) → IsGrouped l.keys (length l.fn.counts) left true sorted
      → AddedSome l.plan l.width all l.fn.count (g.C.RowCursor.left l.fn.cursor) start (groups_at (places_of l.keys left) (states_in l.layout l.fn.counts l.fn.lanes))
      → AddedSome l.plan l.width all l.count (g.C.RowCursor.left l.cursor) start (groups_at (places_of l.keys left) (states_in l.layout l.counts l.lanes));
}

abbrev pub decreases-rows : goal.decreases-rows
decreases-rows g l = length (g.C.RowCursor.left l.cursor)
