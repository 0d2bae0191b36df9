use Rattle.std.proofs.Common.{◌≡◌, ◌+◌, ℕ, arith, ap, sym, subst, ◌∙◌, length, IsSome, is_some, refl}
use Rattle.word_map.specs.WordMap.{at}
use Rattle.word_map.proofs.Maps.{just_has, insert-keys}
use Rattle.region_words.specs.Parts.{Owned}
use Rattle.dshash_core.specs.Chains.{word, item_at}
use Rattle.dshash_core.proofs.Chains.{filled}
use Rattle.dshash_core.proofs.words.fill.Goals as goal

pub overflow_add-place : goal.overflow_add-place
overflow_add-place c =
    let small = c.is_small.ensures (c.args.item.at + 1) (just_has _ _ _ _ c.args.item.just (omega arith) (omega arith)) in
    omega (arith, small)

pub overflow_add-key_place : goal.overflow_add-key_place
overflow_add-key_place c =
    let small = c.is_small.ensures (c.args.item.at + 1) (just_has _ _ _ _ c.args.item.just (omega arith) (omega arith)) in
    omega (arith, small)

pub overflow_add-value_place : goal.overflow_add-value_place
overflow_add-value_place c =
    let small = c.is_small.ensures (c.args.item.at + 1 + length c.args.key.now) (just_has _ _ _ _ c.args.item.just (omega arith) (omega arith)) in
    omega (arith, small)

pub store_words-requires-clause-owns : goal.store_words-requires-clause-owns
store_words-requires-clause-owns c = λ k low high.
    subst (λ (p : Owned). IsSome (at p.words k)) (sym c.put_word.ensures)
    (insert-keys c.args.item.part.words (c.word-place.result + 1) c.args.hash k (just_has _ _ _ (c.word-place.result + 1) c.args.item.just (omega arith) (omega arith))
    ∙ just_has _ _ _ k c.args.item.just (omega arith) (omega arith))

pub store_words-requires-2-clause-owns : goal.store_words-requires-2-clause-owns
store_words-requires-2-clause-owns c = λ k low high.
    c.store_words.ensures.keys k
    ∙ subst (λ (p : Owned). IsSome (at p.words k)) (sym c.put_word.ensures)
    (insert-keys c.args.item.part.words (c.word-place.result + 1) c.args.hash k (just_has _ _ _ (c.word-place.result + 1) c.args.item.just (omega arith) (omega arith))
    ∙ just_has _ _ _ k c.args.item.just (omega arith) (omega arith))

pub invariant_of-result : goal.invariant_of-result
invariant_of-result c = record {
  valid = c.args.item.valid;
  whole = c.args.item.whole;
  just = λ k.
      c.store_words-2.ensures.keys k ∙ c.store_words.ensures.keys k
      ∙ ap (λ (p : Owned). is_some (at p.words k)) c.put_word.ensures
      ∙ insert-keys c.args.item.part.words (c.word-place.result + 1) c.args.hash k (just_has _ _ _ (c.word-place.result + 1) c.args.item.just (omega arith) (omega arith))
      ∙ c.args.item.just k;
}

pub returns-clause-place : goal.returns-clause-place
returns-clause-place c = (refl, refl, c.store_words-2.ensures.region ∙ c.store_words.ensures.region ∙ ap (λ (p : Owned). p.region) c.put_word.ensures)

pub returns-clause-item : goal.returns-clause-item
returns-clause-item c =
    let P : ℕ → Type 0 = λ a. item_at (word c.store_words-2.new.part.words) (length c.args.key.now) (length c.args.value.now) a ≡ record { at = a; key = c.args.key.now; value = c.args.value.now } in
    subst P c.word-place.ensures (filled c.args.item.part.words c.put_word.new.part.words c.store_words.new.part.words c.store_words-2.new.part.words c.word-place.result c.args.hash c.args.key.now c.args.value.now
    (ap (λ (p : Owned). p.words) c.put_word.ensures) c.store_words.ensures.below c.store_words.ensures.words c.store_words-2.ensures.below c.store_words-2.ensures.words).0

pub returns-clause-hashed : goal.returns-clause-hashed
returns-clause-hashed c =
    ap (λ (a : ℕ). word c.store_words-2.new.part.words (a + 1)) (sym c.word-place.ensures)
    ∙ (filled c.args.item.part.words c.put_word.new.part.words c.store_words.new.part.words c.store_words-2.new.part.words c.word-place.result c.args.hash c.args.key.now c.args.value.now
    (ap (λ (p : Owned). p.words) c.put_word.ensures) c.store_words.ensures.below c.store_words.ensures.words c.store_words-2.ensures.below c.store_words-2.ensures.words).1
