-- Words in a row.
use Rattle.std.proofs.Common.{◌≡◌, ℕ, zero, suc, ◌+◌, ◌<◌, ◌≤◌, IsSome, is_some, ap, ◌∙◌, arith}
use Rattle.std.specs.FinMap as fin
use Rattle.word_map.specs.WordMap.{WordMap, at, HasJust}
use Rattle.word_map.proofs.Maps.{just_has, insert-keys}
use Rattle.region_words.specs.Parts.{Owned, owned}

pub row_has : (m : WordMap) (from len n : ℕ) → HasJust m from len → n < len → IsSome (at m (from + n))
row_has m from len n h l = just_has m from len (from + n) h (omega arith) (omega arith)

pub just_after : (p q : Owned) (k x from len : ℕ) → HasJust q.words from len → IsSome (at q.words k) → p ≡ owned q.region (fin.insert q.words k x) → HasJust p.words from len
just_after p q k x from len h has e j = ap (λ (o : Owned). is_some (at o.words j)) e ∙ insert-keys q.words k x j has ∙ h j

-- words in a row of a part, whose numbers are below 2 ^ 26, are few
pub row_low : (m : WordMap) (from len : ℕ) → HasJust m from len → ((k : ℕ) → IsSome (at m k) → k < 67108864) → 0 < len → from + len ≤ 67108864
row_low m from zero h small more = absurd (omega arith)
row_low m from (suc n) h small more = let l = small (from + n) (row_has m from (suc n) n h (omega arith)) in omega arith

pub row_few : (m : WordMap) (from len : ℕ) → HasJust m from len → ((k : ℕ) → IsSome (at m k) → k < 67108864) → len ≤ 67108864
row_few m from zero h small = omega arith
row_few m from (suc n) h small = let l = row_low m from (suc n) h small (omega arith) in omega arith
