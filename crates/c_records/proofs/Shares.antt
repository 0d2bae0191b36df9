-- What keeps a caller's share whole.
use Rattle.std.proofs.Common.{◌≡◌, ◌*◌, Option, Some, None, IfSome, refl, ◌∙◌}
use Rattle.size_classes.specs.Classes.{first_size}
use Rattle.dsa_area.specs.Sizes.{chunk_size}
use Rattle.region_words.specs.declared.chunk.Chunk.{Chunk}
use Rattle.atomic_table.specs.Seated.{TableId}
use Rattle.c_records.specs.Items.{IsItem}

-- 20 words are what an item takes
item_size : 160 ≡ chunk_size 160
unfolding chunk_size first_size
item_size = refl

pub cut_item : (region : TableId) (o : Option Chunk) → IfSome o (λ c. (c.part.region ≡ region) × (c.bytes ≡ 8 * 20)) → IfSome o (IsItem region)
cut_item region (Some c) h = record { here = h.0; size = h.1 ∙ item_size }
cut_item region None h = tt
