use Rattle.std.proofs.Common.{ℕ, true, subst}
use Rattle.dshash_parts.specs.Sweeps.{GaveBack}
use Rattle.dshash_parts.proofs.table.Dshash.take_any.Goals as goal

pub returns-in-Some-clause-gave : goal.returns-in-Some-clause-gave
returns-in-Some-clause-gave g c =
    let item = rw c.in-Some.is at c.in_ok-taken.ensures.item in
    subst (λ (bytes : ℕ). GaveBack c.args.area.now c.args.apass.now c.give.new.apass bytes true) item.1 c.give.ensures.gave
