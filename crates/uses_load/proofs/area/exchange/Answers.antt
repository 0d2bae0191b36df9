use Rattle.std.proofs.Common.{◌≡◌, ◌∙◌, ap}
use Rattle.std.proofs.lemmas.List.Elements.{All-set}
use Rattle.region_words.specs.declared.chunk.Chunk.{Chunk}
use Rattle.uses_load.proofs.area.exchange.Goals as goal

pub returns-clause-here : goal.returns-clause-here
returns-clause-here g c =
    let is_here = λ (chunk : Chunk). chunk.part.region ≡ c.args.r.now in
    let stays : is_here c.replace-old.new.dest = ap (λ (chunk : Chunk). chunk.part.region) c.replace-old.ensures.after ∙ ap (λ part. part.region) c.store.ensures.part ∙ c.in-Ok.ensures.here in
    All-set is_here c.args.held.now.items c.args.at c.replace-old.new.dest stays c.requires.here
