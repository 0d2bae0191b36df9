use Rattle.std.proofs.Common.{◌≡◌, ◌∙◌, ap, false, sym}
use Rattle.answer_text.specs.Held.{Waiting}
use Rattle.answer_text.proofs.Going.{puts-written}
use Rattle.answer_text.proofs.held.Held.write.Goals as goal

pub returns-then-not-self : goal.returns-then-not-self
returns-then-not-self g c =
    let was : c.args.self.now.is_broken ≡ false = sym (ap (λ (w : Waiting). w.is_broken) c.self.view_is) ∙ c.if-not-self.true in
    let wrote = c.write_whole.ensures in
    puts-written g.O.Sink.taken g.O.Sink.faults c.write_whole.result c.args.out.now c.write_whole.new.sink c.args.self.now _ c.args.piece.now was (c.requires was)
    (ap (λ (w : Waiting). w.bytes) c.self.view_is) c.is_err-self-inside.ensures.value wrote.whole wrote.prefix wrote.cause
