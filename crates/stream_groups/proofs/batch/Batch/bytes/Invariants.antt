use Rattle.std.proofs.Common.{◌≤◌, ◌-◌, ◌^◌, length, min, take}
use Rattle.stream_groups.specs.Begins.{lines_of}
use Rattle.stream_groups.proofs.batch.Batch.bytes.Given as goal

-- the lines of the windows so far
abbrev pub invariant-loop-piece : goal.invariant-loop-piece
invariant-loop-piece l = min (length (lines_of (take l.piece-index l.piece-items))) (2 ^ 64 - 1) ≤ l.bytes
