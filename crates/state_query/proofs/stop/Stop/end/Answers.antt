use Rattle.std.proofs.Common.{ℕ, List, subst}
use Rattle.answer_text.specs.Lines.{IsSaid}
use Rattle.state_query.proofs.stop.Stop.end.Goals as goal

pub returns-clause-said : goal.returns-clause-said
returns-clause-said g c =
    let Said : List ℕ → Type 0 = λ t. IsSaid (g.E.Sink.taken c.args.err.now) (g.E.Sink.taken c.write_pieces.new.err) (g.E.Sink.faults c.args.err.now) (g.E.Sink.faults c.write_pieces.new.err) t in
    subst Said c.pieces.ensures c.write_pieces.ensures.said
