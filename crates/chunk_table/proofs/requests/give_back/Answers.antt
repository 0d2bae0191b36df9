use Rattle.std.proofs.Common.{◌≡◌, ℕ, true, Option, IfSome, is_some, sym, subst}
use Rattle.region_words.specs.declared.chunk.Chunk.{Chunk}
use Rattle.dshash_parts.specs.Sweeps.{GaveBack}
use Rattle.chunk_table.proofs.requests.give_back.Goals as goal

pub returns-in-Some-clause-gave : goal.returns-in-Some-clause-gave
returns-in-Some-clause-gave g c = λ bytes size.
    let given = subst (λ (z : ℕ). GaveBack c.args.area.now c.args.apass.now c.give.new.apass z true) (subst (λ (o : Option Chunk). IfSome o (λ k. k.bytes ≡ bytes)) c.in-Some.is size) c.give.ensures.gave in
    subst (λ (o : Option Chunk). GaveBack c.args.area.now c.args.apass.now c.give.new.apass bytes (is_some o)) (sym c.in-Some.is) given
