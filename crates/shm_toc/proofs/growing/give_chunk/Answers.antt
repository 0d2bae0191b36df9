use Rattle.std.proofs.Common.{ℕ, ◌-◌, ◌/◌, arith, sym, subst}
use Rattle.word_map.specs.WordMap.{HasJust}
use Rattle.region_words.specs.Parts.{Owned}
use Rattle.word_map.proofs.Uses.{range-there}
use Rattle.shm_toc.proofs.Stores.{stored_has}
use Rattle.shm_toc.proofs.Tables.{given_words}
use Rattle.shm_toc.proofs.growing.give_chunk.Goals as goal

pub split-part-requires-clause-owns : goal.split-part-requires-clause-owns
split-part-requires-clause-owns c = λ k low high. stored_has _ _ _ _ k c.store.ensures (c.requires.owns k (omega (arith, c.requires.sizes)))

pub invariant_of-result : goal.invariant_of-result
invariant_of-result c = record {
  valid = omega (arith, c.requires.sizes, c.of.ensures);
  whole = omega (arith, c.requires.sizes);
  just = subst (λ (z : ℕ). HasJust c.split-part.result.words z (c.args.bytes / 8)) (sym c.of.ensures)
      (subst (λ (o : Owned). HasJust o.words ((c.args.total - c.args.taken) / 8) (c.args.bytes / 8)) (sym c.split-part.ensures.range)
      (range-there _ _ _ (λ k low high. stored_has _ _ _ _ k c.store.ensures (c.requires.owns k (omega (arith, c.requires.sizes))))));
}

pub returns-clause-words : goal.returns-clause-words
returns-clause-words c = given_words _ _ _ _ _ _ c.store.ensures c.split-part.ensures.rest
