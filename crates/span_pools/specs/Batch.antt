-- Objects as a list of chunks, which calls of a pool fill and empty.
use Rattle.std.specs.Prelude.{◌≡◌, ℕ, ◌+◌, ◌<◌, ◌≤◌, List, [], ◌∷◌, ◌++◌, drop, length, map}
use Rattle.atomic_table.specs.Seated.{TableId}
use Rattle.region_words.specs.declared.chunk.Chunk.{Chunk}

-- the first words of chunks
abbrev pub places : List Chunk → List ℕ
places cs = map (λ (c : Chunk). c.at) cs

-- each is of this region and has this many bytes
abbrev pub AreChunks : TableId → ℕ → List Chunk → Type 0
AreChunks region bytes [] = Unit {0}
AreChunks region bytes (c ∷ cs) = (c.bytes ≡ bytes) × (c.part.region ≡ region) × AreChunks region bytes cs

-- what went off the end of a list
abbrev pub gone : List Chunk → List Chunk → List Chunk
gone before after = drop (length after) before

-- at most `count` objects went off the end of a list; and one at least, if there was one and one was asked for
pub record IsRest (count : ℕ) (before after : List Chunk) : Type 0 where
  pub begins : before ≡ after ++ gone before after
  pub few : length before ≤ length after + count
  pub some : 0 < count → 0 < length before → length after < length before
