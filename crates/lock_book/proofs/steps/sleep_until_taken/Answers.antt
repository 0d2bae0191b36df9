use Rattle.std.proofs.Common.{◌∙◌, subst}
use Rattle.lock_book.specs.Ruled.{Taken}
use Rattle.lock_book.proofs.steps.sleep_until_taken.Goals as goal

pub returns-then-look_and_take-clause-taken : goal.returns-then-look_and_take-clause-taken
returns-then-look_and_take-clause-taken g c =
    let K = g.T.Kept in
    let t = c.look_and_take in
    let same = c.advise.ensures.same.1 ∙ c.loop.invariant.1 in
    subst (λ m. Taken (λ x. K.name x.value) (λ x. K.state x.value) K.legal m c.args.at t.new.seat.me) same (t.ensures.taken c.if-look_and_take.true)
