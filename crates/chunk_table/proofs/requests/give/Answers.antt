use Rattle.std.proofs.Common.{ℕ, true, false, Result, Ok, Err, IfOk, IfErr}
use Rattle.dsa_area.specs.Requests.{IsHandedBack, IsTakenBack}
use Rattle.dsa_area.specs.declared.area.Area.{Area}
use Rattle.dsa_area.specs.declared.area.AreaPass.{AreaPass}
use Rattle.dshash_parts.specs.Sweeps.{GaveBack}
use Rattle.chunk_table.proofs.requests.give.Goals as goal

-- the answer says whether the area took it
told : {T E : Type 0} (a : Area) (p q : AreaPass) (at bytes : ℕ) (r : Result T E) → IfOk r (λ _. IsTakenBack a p q at bytes) → IfErr r (λ _. IsHandedBack a p q at bytes) → GaveBack a p q bytes true
told a p q at bytes (Ok x) taken handed = (true, (at, taken))
told a p q at bytes (Err x) taken handed = (false, (at, handed))

pub returns-clause-gave : goal.returns-clause-gave
returns-clause-gave g c = told c.args.area.now c.args.apass.now c.free-refused.new.pass c.args.chunk.at c.args.chunk.bytes c.free-refused.result c.free-refused.ensures.freed c.free-refused.ensures.stranger
