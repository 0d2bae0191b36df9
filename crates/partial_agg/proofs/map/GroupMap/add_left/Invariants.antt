use Rattle.std.proofs.Common.{◌≡◌, ◌+◌, length}
use Rattle.partial_agg.specs.Cursor.{AddedSome}
use Rattle.partial_agg.proofs.map.GroupMap.add_left.Given as goal

-- the map has the rows so far, none of these is refused, and the others are left
abbrev pub invariant-rows : goal.invariant-rows
invariant-rows g l = record {
  few : l.count + length (g.C.RowCursor.left l.cursor) ≡ length (g.C.RowCursor.left l.fn.cursor);
  added : AddedSome l.plan l.width (g.C.RowCursor.left l.fn.cursor) l.count (g.C.RowCursor.left l.cursor) l.fn.self l.self;
}

abbrev pub decreases-rows : goal.decreases-rows
decreases-rows g l = length (g.C.RowCursor.left l.cursor)
