-- What keeps a caller's share whole.
use Rattle.std.proofs.Common.{◌≡◌, ◌*◌, Option, Some, None, IfSome, refl, ◌∙◌}
use Rattle.size_classes.specs.Classes.{first_size}
use Rattle.dsa_area.specs.Sizes.{chunk_size}
use Rattle.region_words.specs.declared.chunk.Chunk.{Chunk}
use Rattle.atomic_table.specs.Seated.{TableId}
use Rattle.c_table.specs.Reserves.{IsItem}

-- four words are what an item takes
item_size : 32 ≡ chunk_size 32
unfolding chunk_size first_size
item_size = refl

pub cut_item : (region : TableId) (o : Option Chunk) → IfSome o (λ c. (c.part.region ≡ region) × (c.bytes ≡ 8 * 4)) → IfSome o (IsItem region)
cut_item region (Some c) h = record { here = h.0; size = h.1 ∙ item_size }
cut_item region None h = tt
