-- Spare items: where they are, and how many bytes they have.
use Rattle.std.proofs.Common.{◌≡◌, ℕ, Option, Some, None, IfSome, sym, subst}
use Rattle.atomic_table.specs.Seated.{TableId}
use Rattle.region_words.specs.declared.chunk.Chunk.{Chunk}

-- what is not used is the spare itself
pub unused_spare : (region : TableId) (n : ℕ) (spare unused : Option Chunk) → IfSome spare (λ x. (x.part.region ≡ region) × (x.bytes ≡ n)) → IfSome unused (λ x. spare ≡ Some x) → IfSome unused (λ x. (x.part.region ≡ region) × (x.bytes ≡ n))
unused_spare region n spare (Some x) h e = subst (λ (o : Option Chunk). IfSome o (λ y. (y.part.region ≡ region) × (y.bytes ≡ n))) e h
unused_spare region n spare None h e = tt

-- a spare item has an item's bytes
pub only_bytes : (region : TableId) (n : ℕ) (o : Option Chunk) → IfSome o (λ x. (x.part.region ≡ region) × (x.bytes ≡ n)) → IfSome o (λ x. x.bytes ≡ n)
only_bytes region n (Some x) h = h.1
only_bytes region n None h = tt

-- and so has one that was handed back
pub kept_bytes : (region : TableId) (n : ℕ) (spare kept : Option Chunk) → IfSome spare (λ x. (x.part.region ≡ region) × (x.bytes ≡ n)) → kept ≡ spare → IfSome kept (λ x. x.bytes ≡ n)
kept_bytes region n spare kept h e = only_bytes region n kept (subst (λ (o : Option Chunk). IfSome o (λ y. (y.part.region ≡ region) × (y.bytes ≡ n))) (sym e) h)
