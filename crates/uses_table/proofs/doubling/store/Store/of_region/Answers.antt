use Rattle.std.proofs.Common.{◌≡◌, ℕ, ◌+◌, ◌-◌, ◌≤◌, Bool, true, false, cond, Option, Some, None, is_some, refl, sym, ap, subst, ◌∙◌, arith}
use Rattle.word_map.specs.WordMap.{WordMap, at, is_within, HasJust}
use Rattle.word_map.proofs.Maps.{range-just}
use Rattle.region_words.specs.Parts.{Owned}
use Rattle.uses_table.proofs.doubling.store.Store.of_region.Goals as goal

-- a map of zeros has just its words
zeros-just : (m : WordMap) (words : ℕ) → ((k : ℕ) → at m k ≡ cond {A = Option ℕ} (is_within 0 words k) (Some 0) None) → HasJust m 0 words
zeros-just m words zeros k = ap is_some (zeros k) ∙ go (is_within 0 words k)
  where
    go : (b : Bool) → is_some (cond {A = Option ℕ} b (Some 0) None) ≡ b
    go true = refl
    go false = refl

pub invariant_of-result : goal.invariant_of-result
invariant_of-result c =
    let words = c.args.words in
    let part = zeros-just c.args.part.words words c.requires.zeros in
    let inside : 1 + (words - 1) ≤ 0 + words = omega (arith, c.requires.words.0) in
    record {
      valid = omega arith;
      small = omega (arith, c.requires.words.0, c.requires.words.1);
      just = subst (λ (o : Owned). HasJust o.words 1 (words - 1)) (sym c.split.ensures.range) (range-just c.args.part.words 0 words 1 (words - 1) part (omega arith) inside);
    }
