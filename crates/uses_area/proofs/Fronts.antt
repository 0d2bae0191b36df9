-- The words before those that are cut off stay.
use Rattle.std.proofs.Common.{◌≡◌, ℕ, ◌<◌, Bool, cond, None, is_some, IsSome, ap, ◌∙◌, arith}
use Rattle.std.proofs.lemmas.Bool.{false_from_ne_true}
use Rattle.word_map.specs.WordMap.{WordMap, at, is_within, rest_of}
use Rattle.word_map.proofs.Maps.{at-rest_cond, within_is}

pub cut_front : (m : WordMap) (from len k : ℕ) → k < from → IsSome (at m k) → IsSome (at (rest_of m from len) k)
cut_front m from len k h s = ap is_some (at-rest_cond m from len k ∙ ap (λ (b : Bool). cond b None (at m k)) (false_from_ne_true (is_within from len k) (λ e. let i = within_is from len k e in omega (arith, i.0)))) ∙ s
