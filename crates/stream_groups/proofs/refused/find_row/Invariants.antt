use Rattle.std.proofs.Common.{◌≡◌, ◌≤◌, ◌*◌, length, take}
use Rattle.split_run.specs.Pieces.{rows_of}
use Rattle.stream_groups.specs.Begins.{feeds_of}
use Rattle.stream_groups.proofs.refused.find_row.Given as goal

-- this many rows are in the pieces so far
abbrev pub invariant-loop-piece : goal.invariant-loop-piece
invariant-loop-piece l = record {
  count : l.before ≡ length (rows_of (take l.piece-index l.pieces));
  few : l.before ≤ 4194305 * l.piece-index;
  number : l.number ≡ l.piece-index;
  feeds : l.feeds ≡ feeds_of (take l.piece-index l.pieces);
}
