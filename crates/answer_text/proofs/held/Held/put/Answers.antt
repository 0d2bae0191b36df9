use Rattle.std.proofs.Common.{[], subst}
use Rattle.answer_text.specs.Held.{Puts, Waiting}
use Rattle.answer_text.proofs.Going.{puts-then}
use Rattle.answer_text.proofs.held.Held.put.Goals as goal

-- what waited went on, and then the piece
pub returns-then-not-keep : goal.returns-then-not-keep
returns-then-not-keep g c =
    let same = c.keep.ensures.same c.if-not-keep.true in
    let On : Waiting → Type 0 = λ before. Puts g.O.Sink.taken g.O.Sink.faults c.args.out.now c.pass_on.new.out before c.pass_on.new.self [] in
    puts-then g.O.Sink.taken g.O.Sink.faults c.args.out.now c.pass_on.new.out c.write.new.out c.args.self.now c.pass_on.new.self c.write.new.self [] c.args.piece.now (subst On same c.pass_on.ensures.puts) c.write.ensures
