use Rattle.std.proofs.Common.{subst}
use Rattle.lock_book.specs.Ruled.{Taken}
use Rattle.lock_book.proofs.steps.await_turn.Goals as goal

pub returns-then-is_completed-clause-taken : goal.returns-then-is_completed-clause-taken
returns-then-is_completed-clause-taken g c =
    let K = g.T.Kept in
    subst (λ m. Taken (λ x. K.name x.value) (λ x. K.state x.value) K.legal m c.args.at c.sleep_until_taken.new.seat.me) c.loop.invariant.1 c.sleep_until_taken.ensures.taken

pub returns-then-look_and_take-clause-taken : goal.returns-then-look_and_take-clause-taken
returns-then-look_and_take-clause-taken g c =
    let K = g.T.Kept in
    let t = c.look_and_take in
    subst (λ m. Taken (λ x. K.name x.value) (λ x. K.state x.value) K.legal m c.args.at t.new.seat.me) c.loop.invariant.1 (t.ensures.taken c.if-look_and_take.true)
