use Rattle.std.proofs.Common.{◌≤◌, map, take}
use Rattle.std.specs.Io.KnownBytes.{Appends}
use Rattle.std.specs.List.{concat}
use Rattle.answer_text.proofs.text.write_each.Given as goal

-- the sink has the pieces so far
abbrev pub invariant-loop-piece : goal.invariant-loop-piece
invariant-loop-piece g l = record {
  taken : Appends (g.O.Sink.taken l.fn.out) (g.O.Sink.taken l.out) (concat (map (λ piece. piece.items) (take l.piece-index l.pieces)));
  kept : g.O.Sink.faults l.fn.out ≤ g.O.Sink.faults l.out;
}
