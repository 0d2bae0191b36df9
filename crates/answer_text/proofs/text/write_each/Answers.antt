use Rattle.std.proofs.Common.{◌<◌, ℕ, List, arith, length, map, rules, subst, take}
use Rattle.std.proofs.KnownBytes.{Appends-trans}
use Rattle.std.specs.Global.{Vec}
use Rattle.std.specs.Io.KnownBytes.{Appends}
use Rattle.std.specs.List.{concat}
use Rattle.answer_text.proofs.Pieces.{pieces_front, pieces_more}
use Rattle.answer_text.proofs.text.write_each.Goals as goal

abbrev bytes_of : Vec ℕ → List ℕ
bytes_of piece = piece.items

pub returns-in_err-write_whole-clause-prefix : goal.returns-in_err-write_whole-clause-prefix
returns-in_err-write_whole-clause-prefix g c =
    let failed = c.in_err-write_whole.ensures in
    let piece = c.piece-item.result in
    let within : c.loop-piece.piece-index < length c.args.pieces.now = omega (arith, c.loop-piece-test.true) in
    let front = pieces_front bytes_of c.args.pieces.now c.loop-piece.piece-index failed.prefix.0 piece within in
    let both = Appends-trans _ _ _ _ _ c.loop-piece.invariant.taken (rw (c.as_slice.ensures.value, c.piece-item.is) at failed.prefix.1) in
    let P : List ℕ → Type 0 = λ bytes. Appends (g.O.Sink.taken c.args.out.now) (g.O.Sink.taken c.write_whole.new.sink) bytes in
    let here : (n : ℕ) × P (take n (concat (map bytes_of c.args.pieces.now))) = (front.0, subst P front.1 both) in
    search rules

pub loop-piece-preserved : goal.loop-piece-preserved
loop-piece-preserved g c =
    let wrote = c.in_ok-write_whole.ensures in
    let within : c.loop-piece.piece-index < length c.args.pieces.now = omega (arith, c.loop-piece-test.true) in
    record {
      taken = rw (pieces_more bytes_of c.args.pieces.now c.loop-piece.piece-index c.piece-item.result within) (Appends-trans _ _ _ _ _ c.loop-piece.invariant.taken (rw (c.as_slice.ensures.value, c.piece-item.is) at wrote.whole));
      kept = omega (arith, c.loop-piece.invariant.kept, wrote.cause.kept);
    }
