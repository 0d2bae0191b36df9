use Rattle.std.proofs.Common.{◌≤◌, map, take}
use Rattle.std.specs.Io.KnownBytes.{Appends}
use Rattle.std.specs.List.{concat}
use Rattle.answer_text.proofs.line.write_pieces.Given as goal

-- the sink has the pieces so far
abbrev pub invariant-loop-piece : goal.invariant-loop-piece
invariant-loop-piece g l = record {
  taken : Appends (g.E.Sink.taken l.fn.err) (g.E.Sink.taken l.err) (concat (map (λ piece. piece.now) (take l.piece-index l.pieces)));
  kept : g.E.Sink.faults l.fn.err ≤ g.E.Sink.faults l.err;
}
