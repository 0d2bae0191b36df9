use Rattle.std.proofs.Common.{inr, refl, sym}
use Rattle.stream_groups.proofs.rows.bind_once.Goals as goal

pub returns-in-None-clause-once : goal.returns-in-None-clause-once
returns-in-None-clause-once c = sym c.in-None.ensures.is

pub returns-in_ok-said-in-Some-clause-twice : goal.returns-in_ok-said-in-Some-clause-twice
returns-in_ok-said-in-Some-clause-twice c =
    let twice = c.in-Some.twice in
    inr (c.in_ok-said-in-Some.said, refl, record { twice = twice; is = sym c.in-Some.ensures.is; says = c.in_ok-said-in-Some.ensures })
