-- The words that a caller brings.
use Rattle.std.specs.Prelude.{◌≡◌, ℕ, ◌+◌, ◌/◌, ◌<◌, ◌≤◌, ◌^◌, List, IsSome}
use Rattle.std.specs.List.{sum_by}
use Rattle.atomic_table.specs.Seated.{TableId}
use Rattle.word_map.specs.WordMap.{at}
use Rattle.region_words.specs.declared.chunk.Chunk.{Chunk}
use Rattle.dsa_area.specs.Sizes.{chunk_size}
use Rattle.c_table.specs.declared.reserve.Reserve.{Reserve}

-- words of this region in a row, after its first
pub record IsReserve (region : TableId) (x : Reserve) : Type 0 where
  pub here : x.part.region ≡ region
  pub valid : 0 < x.next
  pub few : x.next + x.left ≤ 2 ^ 26
  pub owns : (k : ℕ) → x.next ≤ k → k < x.next + x.left → IsSome (at x.part.words k)

-- a chunk of this region for an item of a table of words under keys of one word
pub record IsItem (region : TableId) (c : Chunk) : Type 0 where
  pub here : c.part.region ≡ region
  pub size : c.bytes ≡ chunk_size 32

-- the words of chunks
abbrev pub chunk_words : List Chunk → ℕ
chunk_words chunks = sum_by (λ c. c.bytes / 8) chunks
