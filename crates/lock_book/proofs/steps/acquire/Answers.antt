use Rattle.std.proofs.Common.{subst}
use Rattle.lock_book.specs.Ruled.{Taken}
use Rattle.lock_book.proofs.steps.acquire.Goals as goal

pub returns-clause-taken : goal.returns-clause-taken
returns-clause-taken g c =
    let K = g.T.Kept in
    subst (λ m. Taken (λ x. K.name x.value) (λ x. K.state x.value) K.legal m c.args.at c.await_turn.new.seat.me) (c.try_take.ensures.not_free c.if-try_take.false) c.await_turn.ensures.taken
