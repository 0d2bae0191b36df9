-- Runs of words, and the bytes of a message that they are.
use Rattle.std.specs.Prelude.{◌≡◌, ℕ, ◌+◌, ◌*◌, ◌<◌, ◌≤◌, List, length, take, drop, slice_index, true}
use Rattle.rel_pointer.specs.Bytes.{word_count, packed_words, byte_of, is_of_word}

-- the given number of words of the bytes, from this one on
abbrev pub words_from : ℕ → ℕ → List ℕ → List ℕ
words_from from count bytes = take count (drop from (packed_words (word_count (length bytes)) bytes))

-- the bytes of these words are there from word `from` on, and all other bytes are the old ones
pub record HasWords (old new : List ℕ) (from : ℕ) (words : List ℕ) : Type 0 where
  pub written : (k i : ℕ) → k < length words → i < length old → is_of_word (from + k) i ≡ true → slice_index new i ≡ byte_of (slice_index words k) i
  pub before : (i : ℕ) → i < 8 * from → slice_index new i ≡ slice_index old i
  pub behind : (i : ℕ) → i < length old → 8 * (from + length words) ≤ i → slice_index new i ≡ slice_index old i
