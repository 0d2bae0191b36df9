use Rattle.std.proofs.Common.{◌≡◌, ◌<◌, List, length, get_or, Some, ap, sym, subst, ◌∙◌}
use Rattle.join_pairs.specs.declared.pairing.Finding.{Finding}
use Rattle.join_pairs.proofs.pairing.found_too_many.Goals as goal

pub returns-in-TooMany : goal.returns-in-TooMany
returns-in-TooMany c = λ _.
    let i = c.loop-finding.finding-index in
    let f = c.finding-item.result in
    let value = c.deref-finding-items.ensures.value in
    (i, f, subst (λ (l : List Finding). i < length l) value c.loop-finding-test.true, subst (λ (l : List Finding). get_or l i f ≡ f) value (sym c.finding-item.is), c.in-Some.is ∙ ap Some c.in-TooMany.is)
