use Rattle.std.proofs.Common.{◌≡◌, ◌≤◌, All, List, sym, subst, arith}
use Rattle.std.proofs.lemmas.List.Elements.{All-push}
use Rattle.region_words.specs.declared.chunk.Chunk.{Chunk}
use Rattle.uses_area.proofs.areas.walk.step.Goals as goal

pub give_back-requires-clause-held : goal.give_back-requires-clause-held
give_back-requires-clause-held g c =
    subst (λ (z : List Chunk). All (λ (x : Chunk). (x.part.region ≡ c.args.r.now) × (8 ≤ x.bytes)) z) (sym c.in_ok-push_back.ensures.items)
    (All-push (λ (x : Chunk). (x.part.region ≡ c.args.r.now) × (8 ≤ x.bytes)) c.args.held.now.items c.write_number.new.chunk c.requires.held (c.write_number.ensures.here, omega (arith, c.write_number.ensures.size, c.in-Ok.ensures.holds, c.in-Ok.chunk.whole)))

pub returns-then-i-lt40-clause-held : goal.returns-then-i-lt40-clause-held
returns-then-i-lt40-clause-held g c =
    subst (λ (z : List Chunk). All (λ (x : Chunk). (x.part.region ≡ c.args.r.now) × (8 ≤ x.bytes)) z) (sym c.in_ok-push_back.ensures.items)
    (All-push (λ (x : Chunk). (x.part.region ≡ c.args.r.now) × (8 ≤ x.bytes)) c.args.held.now.items c.write_number.new.chunk c.requires.held (c.write_number.ensures.here, omega (arith, c.write_number.ensures.size, c.in-Ok.ensures.holds, c.in-Ok.chunk.whole)))
