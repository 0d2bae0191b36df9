-- The chunks that hold a key with its record.
use Rattle.std.specs.Prelude.{◌≡◌}
use Rattle.atomic_table.specs.Seated.{TableId}
use Rattle.region_words.specs.declared.chunk.Chunk.{Chunk}
use Rattle.dsa_area.specs.Sizes.{chunk_size}

-- a chunk of this region for an item of a table of records under keys of one word
pub record IsItem (region : TableId) (c : Chunk) : Type 0 where
  pub here : c.part.region ≡ region
  pub size : c.bytes ≡ chunk_size 160
