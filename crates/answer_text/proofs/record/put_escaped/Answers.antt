use Rattle.std.proofs.Common.{◌∷◌, [], ℕ, List, get_or, subst, take}
use Rattle.csv.specs.Writing.{default_writer, escaped}
use Rattle.answer_text.specs.Held.{Puts}
use Rattle.answer_text.proofs.Going.{puts-none, puts-then}
use Rattle.answer_text.proofs.Records.{escaped-more}
use Rattle.answer_text.proofs.record.put_escaped.Goals as goal

pub loop-byte-init : goal.loop-byte-init
unfolding escaped
loop-byte-init g c = puts-none g.O.Sink.taken g.O.Sink.faults c.args.out.now c.args.held.now

pub loop-byte-preserved : goal.loop-byte-preserved
loop-byte-preserved g c =
    let i = c.loop-byte.byte-index in
    let field = c.args.field.now in
    let Text : List ℕ → Type 0 = Puts g.O.Sink.taken g.O.Sink.faults c.args.out.now c.put_byte.new.out c.args.held.now c.put_byte.new.held in
    subst Text (escaped-more field i 0 c.loop-byte-test.true)
    (puts-then g.O.Sink.taken g.O.Sink.faults c.args.out.now c.loop-byte.out c.put_byte.new.out c.args.held.now c.loop-byte.held c.put_byte.new.held (escaped default_writer (take i field)) (escaped default_writer (get_or field i 0 ∷ []))
    c.loop-byte.invariant c.put_byte.ensures)
