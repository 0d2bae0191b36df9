use Rattle.std.proofs.Common.{◌≡◌, ◌≤◌, ◌*◌, length, take}
use Rattle.split_run.specs.Causes.{AllAccepted}
use Rattle.split_run.specs.Pieces.{rows_of}
use Rattle.split_run.proofs.refused.first_in_pieces.Given as goal

-- none of the rows so far is refused, and this many they are
abbrev pub invariant-loop-piece : goal.invariant-loop-piece
invariant-loop-piece l = record {
  accepted : AllAccepted l.plan (take l.piece-index l.pieces);
  count : l.before ≡ length (rows_of (take l.piece-index l.pieces));
  few : l.before ≤ 4194305 * l.piece-index;
}
