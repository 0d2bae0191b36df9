use Rattle.std.proofs.Common.{◌<◌, ℕ, List, [], inr, length, arith, subst}
use Rattle.std.proofs.KnownBytes.{Appends-trans}
use Rattle.std.specs.Io.KnownBytes.{Appends}
use Rattle.par_io.specs.Faults.{Rose}
use Rattle.answer_text.proofs.Pieces.{pieces_front, pieces_more}
use Rattle.answer_text.proofs.line.write_pieces.Goals as goal

pub returns-in_err-write_whole-clause-said : goal.returns-in_err-write_whole-clause-said
returns-in_err-write_whole-clause-said g c =
    let failed = c.in_err-write_whole.ensures in
    let within : c.loop-piece.piece-index < length c.args.pieces.now = omega (arith, c.loop-piece-test.true) in
    let front = pieces_front (λ piece. piece.now) c.args.pieces.now c.loop-piece.piece-index failed.prefix.0 (record { ref_ptr = (0, 0); now = [] }) within in
    let both = Appends-trans _ _ _ _ _ c.loop-piece.invariant.taken (rw c.as_bytes.ensures.value at failed.prefix.1) in
    let rose : Rose (g.E.Sink.faults c.args.err.now) (g.E.Sink.faults c.write_whole.new.sink) = omega (arith, c.loop-piece.invariant.kept, failed.cause.failed) in
    let P : List ℕ → Type 0 = λ bytes. Appends (g.E.Sink.taken c.args.err.now) (g.E.Sink.taken c.write_whole.new.sink) bytes in
    inr (rose, front.0, subst P front.1 both)

pub loop-piece-preserved : goal.loop-piece-preserved
loop-piece-preserved g c =
    let wrote = c.in_ok-write_whole.ensures in
    let within : c.loop-piece.piece-index < length c.args.pieces.now = omega (arith, c.loop-piece-test.true) in
    record {
      taken = rw (pieces_more (λ piece. piece.now) c.args.pieces.now c.loop-piece.piece-index (record { ref_ptr = (0, 0); now = [] }) within) (Appends-trans _ _ _ _ _ c.loop-piece.invariant.taken (rw c.as_bytes.ensures.value at wrote.whole));
      kept = omega (arith, c.loop-piece.invariant.kept, wrote.cause.kept);
    }
