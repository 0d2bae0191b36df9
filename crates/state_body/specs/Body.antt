-- What a file of states has after its head: the blocks, their end, the foot, the end of the file.
use Rattle.std.specs.Prelude.{◌≡◌, ◌≤◌, ◌+◌, ◌^◌, ◌++◌, ℕ, Bool, List, [], ◌∷◌, All, codes, length, map}
use Rattle.std.specs.Int.{to_le_bytes, w32}
use Rattle.std.specs.List.{flat_map}
use Rattle.state_blocks.specs.Blocks.{Group, IsBlock, block_bytes, block_section, blocks_bytes, first_key}
use Rattle.state_body.specs.declared.index.Index.{Index}
use Rattle.state_file.specs.Number.{number_bytes}
use Rattle.state_file.specs.Section.{section}
use Rattle.state_file.specs.Text.{text_bytes}

-- all groups of some blocks
abbrev pub groups_of : List (List Group) → List Group
groups_of blocks = flat_map (λ block. block) blocks

-- for each block where it begins, if the first one begins at this place, and the key of its first group
abbrev pub places_bytes : List Bool → ℕ → List (List Group) → List ℕ
places_bytes kinds at [] = []
places_bytes kinds at (block ∷ blocks) = (number_bytes at ++ text_bytes (first_key block)) ++ places_bytes kinds (at + length (block_section kinds block)) blocks

-- the foot: how many groups there are, how many blocks, and where each begins
unfoldable pub foot_bytes : List Bool → ℕ → List (List Group) → List ℕ
foot_bytes kinds at blocks = number_bytes (length (groups_of blocks)) ++ (number_bytes (length blocks) ++ places_bytes kinds at blocks)

-- the last bytes of each file
abbrev pub last_bytes : List ℕ
last_bytes = 10 ∷ (codes "states" ++ 10 ∷ [])

-- the foot, its length, the last bytes
unfoldable pub end_bytes : List ℕ → List ℕ
end_bytes foot = section foot ++ (to_le_bytes w32 (length foot) ++ last_bytes)

-- all that comes after the head, if that ends at this place of the file
unfoldable pub body_bytes : List Bool → ℕ → List (List Group) → List ℕ
body_bytes kinds at blocks = blocks_bytes kinds blocks ++ (section [] ++ end_bytes (foot_bytes kinds at blocks))

-- blocks of groups that rows can give, with a foot of at most 2^28 bytes
pub record IsBody (columns : ℕ) (kinds : List Bool) (at : ℕ) (blocks : List (List Group)) : Type 0 where
  pub each : All (IsBlock columns kinds) blocks
  pub short : length (foot_bytes kinds at blocks) ≤ 2 ^ 28

-- what is known of these blocks, the first of which begins at this place
pub record IsIndex (kinds : List Bool) (start : ℕ) (blocks : List (List Group)) (index : Index) : Type 0 where
  pub places : index.places.items ≡ places_bytes kinds start blocks
  pub at : index.at ≡ start + length (blocks_bytes kinds blocks)
  pub blocks_many : index.blocks ≡ length blocks
  pub groups_many : index.groups ≡ length (groups_of blocks)

-- one block more is known, of these bytes, whatever groups they are
pub record Takes (columns : ℕ) (kinds : List Bool) (part : List ℕ) (old new : Index) : Type 0 where
  pub block : List Group
  pub is : part ≡ block_bytes kinds block
  pub is_block : IsBlock columns kinds block
  pub known : (b : List Group) → IsBlock columns kinds b → part ≡ block_bytes kinds b → (start : ℕ) (blocks : List (List Group)) → IsIndex kinds start blocks old → IsIndex kinds start (blocks ++ b ∷ []) new

-- what is known is of any blocks that have these bytes
abbrev pub Knows : ℕ → List Bool → ℕ → List (List ℕ) → Index → Index → Type 0
Knows columns kinds start parts old new =
    (blocks : List (List Group)) → parts ≡ map (block_bytes kinds) blocks → All (IsBlock columns kinds) blocks → IsIndex kinds start [] old → IsIndex kinds start blocks new
