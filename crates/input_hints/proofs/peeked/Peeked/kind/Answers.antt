use Rattle.input_hints.specs.Peeking.{peeked_left}
use Rattle.input_hints.proofs.Peeks.{kind_shown}
use Rattle.input_hints.proofs.peeked.Peeked.kind.Goals as goal

pub returns-clause-kind : goal.returns-clause-kind
returns-clause-kind g c =
    let left = g.S.Source.left in
    let peeked = c.peek.new.self in
    rw (c.kind_of.ensures, c.as_slice.ensures)
    (kind_shown (peeked_left left c.args.self.now) peeked.front (left peeked.source) c.in_ok-peek.ensures.left c.in_ok-peek.ensures.front)
