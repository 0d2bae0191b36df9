use Rattle.std.proofs.Common.{◌≡◌, ◌≤◌, All, List, sym, subst}
use Rattle.std.proofs.lemmas.List.Elements.{All-drop}
use Rattle.region_words.specs.declared.chunk.Chunk.{Chunk}
use Rattle.uses_area.proofs.areas.walk.give_back.Goals as goal

pub returns-then-is_ok-clause-held : goal.returns-then-is_ok-clause-held
returns-then-is_ok-clause-held g c =
    subst (λ (z : List Chunk). All (λ (x : Chunk). (x.part.region ≡ c.args.r.now) × (8 ≤ x.bytes)) z) (sym c.pop_front.ensures.rest) (All-drop (λ (x : Chunk). (x.part.region ≡ c.args.r.now) × (8 ≤ x.bytes)) 1 c.args.held.now.items c.requires.held)

pub returns-else-is_ok-clause-held : goal.returns-else-is_ok-clause-held
returns-else-is_ok-clause-held g c =
    subst (λ (z : List Chunk). All (λ (x : Chunk). (x.part.region ≡ c.args.r.now) × (8 ≤ x.bytes)) z) (sym c.pop_front.ensures.rest) (All-drop (λ (x : Chunk). (x.part.region ≡ c.args.r.now) × (8 ≤ x.bytes)) 1 c.args.held.now.items c.requires.held)
