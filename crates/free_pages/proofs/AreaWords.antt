-- Words in a row that are cut off a part which has them.
use Rattle.std.proofs.Common.{◌≡◌, ℕ, ◌+◌, ◌<◌, ◌≤◌, Bool, true, false, cond, None, is_some, IsSome, refl, sym, ap, ◌∙◌, arith}
use Rattle.std.proofs.lemmas.Bool.{false_from_ne_true}
use Rattle.word_map.specs.WordMap.{WordMap, at, is_within, range_of, rest_of, HasJust}
use Rattle.word_map.proofs.Maps.{at-range, at-rest_cond, within_is}

pub cut_just : (m : WordMap) (from len : ℕ) → ((k : ℕ) → from ≤ k → k < from + len → IsSome (at m k)) → HasJust (range_of m from len) from len
cut_just m from len owns k = ap is_some (at-range m from len k) ∙ go (is_within from len k) refl
  where
    go : (b : Bool) → is_within from len k ≡ b → is_some (cond b (at m k) None) ≡ is_within from len k
    go true e = (let i = within_is from len k e in owns k i.0 i.1) ∙ sym e
    go false e = sym e

-- the words behind stay
pub cut_behind : (m : WordMap) (from len k : ℕ) → from + len ≤ k → at (rest_of m from len) k ≡ at m k
cut_behind m from len k h =
    at-rest_cond m from len k ∙ ap (λ (b : Bool). cond b None (at m k)) (false_from_ne_true (is_within from len k) (λ e. let i = within_is from len k e in omega (arith, i.1)))

pub cut_owns : (m : WordMap) (from len k : ℕ) → from + len ≤ k → IsSome (at m k) → IsSome (at (rest_of m from len) k)
cut_owns m from len k h s = ap is_some (cut_behind m from len k h) ∙ s
