use Rattle.std.proofs.Common.{◌≡◌, ℕ, ◌+◌, ◌-◌, ◌*◌, ◌/◌, ◌≤◌, sym, subst, arith}
use Rattle.word_map.specs.WordMap.{HasJust}
use Rattle.word_map.proofs.Maps.{range-just, rest-just}
use Rattle.region_words.specs.Parts.{Owned}
use Rattle.uses_table.proofs.doubling.store.Store.take.Goals as goal

pub invariant_of-self : goal.invariant_of-self
invariant_of-self c =
    let store = c.args.self.now in
    let words = c.args.words in
    let few : words ≤ store.left = omega (arith, c.if-words-self.false) in
    record {
      valid = omega (arith, store.valid);
      small = omega (arith, store.small, few);
      just = subst (λ (o : Owned). HasJust o.words (store.next + words) (store.left - words)) (sym c.split-part.ensures.rest) (rest-just store.part.words store.next store.left words store.just few);
    }

pub invariant_of-result : goal.invariant_of-result
invariant_of-result c =
    let store = c.args.self.now in
    let words = c.args.words in
    let few : words ≤ store.left = omega (arith, c.if-words-self.false) in
    let inside : store.next + words ≤ store.next + store.left = omega (arith, few) in
    let len : 8 * words / 8 ≡ words = omega arith in
    record {
      valid = rw c.of.ensures store.valid;
      whole = omega arith;
      just = subst (λ (n : ℕ). HasJust c.split-part.result.words c.of.result n) (sym len)
          (subst (λ (n : ℕ). HasJust c.split-part.result.words n words) (sym c.of.ensures)
          (subst (λ (o : Owned). HasJust o.words store.next words) (sym c.split-part.ensures.range) (range-just store.part.words store.next store.left store.next words store.just (omega arith) inside)));
    }
