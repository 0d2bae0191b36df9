-- The words of a ring as a map.
use Rattle.std.specs.Prelude.{◌≡◌, ◌+◌, Some}
use Rattle.word_map.specs.WordMap.{WordMap, at, HasJust, numbered}
use Rattle.ring_rule.specs.Ring.{Ring, IsRing, Sending, Receiving, count_word, ring_words}

-- the ring's words as its two ends know them
abbrev pub ring_map : Sending → Receiving → WordMap
ring_map s q = numbered s.ring.base (ring_words s q)

-- m has just the words of the ring r, with both counts and the flag as at the start
pub record IsFresh (m : WordMap) (r : Ring) : Type 0 where
  pub ring : IsRing r
  pub just : HasJust m r.base (r.size + 3)
  pub written : at m r.base ≡ Some (count_word r 0)
  pub read : at m (r.base + 1) ≡ Some (count_word r 0)
  pub flag : at m (r.base + 2) ≡ Some 0
