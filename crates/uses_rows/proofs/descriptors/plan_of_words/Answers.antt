use Rattle.std.proofs.Common.{◌∙◌, ap, refl}
use Rattle.plan_descriptor.proofs.Values.{kept_words}
use Rattle.region_words.specs.Parts.{Owned}
use Rattle.uses_rows.proofs.descriptors.plan_of_words.Goals as goal

pub read_plan-requires-clause-has : goal.read_plan-requires-clause-has
read_plan-requires-clause-has c =
    let chunk = c.store_words.new.chunk in
    let kept = ap (λ (o : Owned). o.words) c.freeze-toc.ensures ∙ c.keep.ensures.words in
    kept_words c.freeze-toc.result.words _ chunk.part.words chunk.at chunk.at chunk.bytes kept chunk.just (c.store_words.ensures.place.1 ∙ c.in-Ok.ensures.chunk.1) refl
