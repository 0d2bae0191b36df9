-- What contracts see of a part, a frozen part and a chunk: which region it is of, and the values of its words.
use Rattle.std.specs.Prelude.{◌≡◌, ℕ, ◌<◌, ◌≤◌, [], Some, None, refl, is_some}
use Rattle.std.specs.Coded.{Coded, Coded-set, code_by, coded×, coded_bool, Π_prop}
use Rattle.std.specs.FinMap as fin
use Rattle.atomic_table.specs.Seated.{TableId, table_id_coded}
use Rattle.atomic_table.specs.Table.{Me}
use Rattle.word_map.specs.WordMap.{WordMap, at, is_within, HasJust}
use Rattle.region_rule.specs.View.{View, Own, Frozen, map_code}
use Rattle.region_rule.specs.Places.{Token, idle}

-- a region, and the words of it that a token has, with their values
pub record Owned : Type 0 where
  pub region : TableId
  pub words : WordMap

-- such words, of a region and a map
abbrev pub owned : TableId → WordMap → Owned
owned region words = record { region = region; words = words }

-- the code by which proofs distinguish such values
abbrev pub owned_code : Coded Owned
owned_code = code_by (TableId × WordMap) (coded× table_id_coded map_code) (λ p. (p.region, p.words)) (λ p. record { region = p.0; words = p.1 }) (λ _. refl)

-- the words that a token owns
abbrev pub own_map : View → WordMap
own_map (Own m olds) = m
own_map u = fin.empty

-- the words that a token has frozen
abbrev pub frozen_map : View → WordMap
frozen_map (Frozen m) = m
frozen_map u = fin.empty

-- each word of m is one of the first n
abbrev pub IsBelow : WordMap → ℕ → Type 0
IsBelow m n = (k x : ℕ) → at m k ≡ Some x → k < n

-- a region has 1 to 2 ^ 26 words, and a slot for each word
abbrev pub IsSized : TableId → Type 0
IsSized region = (0 < region.words) × (region.words ≤ 67108864) × (region.slots ≡ region.words)

-- the token owns its words, and nothing is left of a join
pub record IsPart (region : TableId) (me : Me ℕ Token) : Type 0 where
  pub owns : me ≡ (idle (Own (own_map me.0.view) None), [])
  pub below : IsBelow (own_map me.0.view) region.words
  pub sized : IsSized region

-- the token has frozen its words
pub record IsFrozen (region : TableId) (me : Me ℕ Token) : Type 0 where
  pub shares : me ≡ (idle (Frozen (frozen_map me.0.view)), [])
  pub below : IsBelow (frozen_map me.0.view) region.words
  pub sized : IsSized region

-- that a map has just these words has one proof at most, so a ghost field can say it
pub HasJust-prop : (m : WordMap) (from len : ℕ) → IsProp (HasJust m from len)
HasJust-prop m from len = Π_prop (λ k. Coded-set coded_bool (is_some (at m k)) (is_within from len k))
