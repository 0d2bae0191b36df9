use Rattle.std.proofs.Common.{◌≡◌, ◌*◌, ◌/◌, ◌<◌, ℕ, arith, ap, sym, subst}
use Rattle.word_map.specs.WordMap.{HasJust}
use Rattle.region_words.specs.Parts.{Owned}
use Rattle.dshash_core.proofs.Hooks.{taken_just}
use Rattle.dshash_core.proofs.buckets.Buckets.into_slice.Goals as goal

pub invariant_of-result : goal.invariant_of-result
invariant_of-result c =
    let words : 8 * c.self.inside.words / 8 ≡ c.self.inside.words = omega arith in
    record {
      valid = subst (λ (a : ℕ). 0 < a) (sym c.of.ensures) c.self.invariant.low;
      whole = omega arith;
      just = subst (λ (a : ℕ). HasJust c.split.result.words a (8 * c.self.inside.words / 8)) (sym c.of.ensures)
          (subst (λ (n : ℕ). HasJust c.split.result.words c.self.inside.slice n) (sym words)
          (taken_just c.self.inside.part.words c.split.result.words c.self.inside.slice c.self.inside.words c.self.invariant.owned (ap (λ (p : Owned). p.words) c.split.ensures.range)));
    }
