use Rattle.input_hints.proofs.refused.refuse_input.Goals as goal

pub returns-in-Ok-Some-clause-kind : goal.returns-in-Ok-Some-clause-kind
returns-in-Ok-Some-clause-kind g c =
    let it = c.in-Ok-Some in
    λ status. (it.kind, rw it.field-0-is at it.ensures.kind, rw c.text.ensures at c.say.ensures)
