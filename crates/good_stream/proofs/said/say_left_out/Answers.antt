use Rattle.std.proofs.Common.{List, ℕ, subst}
use Rattle.answer_text.specs.Lines.{IsSaid}
use Rattle.good_stream.proofs.said.say_left_out.Goals as goal

pub returns : goal.returns
returns g c =
    let taken = g.E.Sink.taken c.args.err.now in
    let gives = g.E.Sink.taken c.write_pieces.new.err in
    subst (λ (text : List ℕ). IsSaid taken gives (g.E.Sink.faults c.args.err.now) (g.E.Sink.faults c.write_pieces.new.err) text) c.pieces.ensures c.write_pieces.ensures.said
