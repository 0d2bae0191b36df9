use Rattle.std.proofs.Common.{is_some, refl, sym, ap, subst, ◌∙◌, arith}
use Rattle.word_map.specs.WordMap.{at as word_at, HasJust}
use Rattle.word_map.proofs.Maps.{at-insert_same, at-range_in}
use Rattle.word_map.proofs.Uses.{range-there}
use Rattle.region_words.specs.Parts.{Owned}
use Rattle.uses_region.proofs.tests.bytes_are_stored_and_words_are_shared.Goals as goal

pub freeze-frozen-requires-clause-row : goal.freeze-frozen-requires-clause-row
freeze-frozen-requires-clause-row g c = subst (λ (o : Owned). HasJust o.words 40 1) (sym c.split.ensures.range)
    (range-there _ 40 1 (λ k low high. ap (λ (o : Owned). is_some (word_at o.words k)) c.store.ensures ∙ ap is_some (at-insert_same _ 40 8 k (omega arith))))

pub load_twice-requires-clause-has : goal.load_twice-requires-clause-has
load_twice-requires-clause-has g c κs =
    ap (λ (o : Owned). is_some (word_at o.words 40)) (c.freeze-frozen.ensures ∙ c.split.ensures.range)
    ∙ ap is_some (at-range_in _ 40 1 40 refl)
    ∙ ap (λ (o : Owned). is_some (word_at o.words 40)) c.store.ensures
    ∙ ap is_some (at-insert_same _ 40 8 40 refl)
