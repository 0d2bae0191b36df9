use Rattle.std.proofs.Common.{◌∙◌, ap}
use Rattle.lock_book.proofs.steps.release.Goals as goal

pub returns-clause-added : goal.returns-clause-added
returns-clause-added g c = λ x e.
    let t = c.free_value.ensures.added x e in
    let same = c.wake_if_asleep.ensures.same.1 in
    (ap (λ m. m.1) same ∙ t.0, ap (λ m. m.0) same ∙ t.1)
