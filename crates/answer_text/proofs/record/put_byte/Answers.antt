use Rattle.std.proofs.Common.{◌∷◌, ◌∙◌, [], List, ℕ, ap, refl, subst, sym}
use Rattle.csv.proofs.WriteFacts.{escaped-double, escaped-other}
use Rattle.csv.specs.Writing.{default_writer}
use Rattle.answer_text.specs.Held.{Puts}
use Rattle.answer_text.proofs.record.put_byte.Goals as goal

pub returns-then-byte-eq34 : goal.returns-then-byte-eq34
returns-then-byte-eq34 g c =
    let Text : List ℕ → Type 0 = Puts g.O.Sink.taken g.O.Sink.faults c.args.out.now c.put.new.out c.args.held.now c.put.new.self in
    let same = c.if-byte-eq34.true in
    subst Text (ap (λ (b : ℕ). b ∷ b ∷ []) (sym same) ∙ sym (escaped-double default_writer c.args.byte same refl)) c.put.ensures

pub returns-else-byte-eq34 : goal.returns-else-byte-eq34
returns-else-byte-eq34 g c =
    let Text : List ℕ → Type 0 = Puts g.O.Sink.taken g.O.Sink.faults c.args.out.now c.put-else-byte-eq34.new.out c.args.held.now c.put-else-byte-eq34.new.self in
    subst Text (sym (escaped-other default_writer c.args.byte c.if-byte-eq34.false)) c.put-else-byte-eq34.ensures
