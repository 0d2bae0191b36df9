-- The groups of a file of states in blocks, each a section of some groups.
use Rattle.std.specs.Prelude.{◌≡◌, ◌<◌, ◌≤◌, ◌^◌, ◌++◌, ℕ, Bool, List, [], ◌∷◌, All, length}
use Rattle.std.specs.List.{flat_map}
use Rattle.par_model.specs.declared.state.SlotState.{SlotState}
use Rattle.state_file.specs.Section.{section}
use Rattle.state_groups.specs.Group.{IsGroup, group_bytes}

-- a group, with a slot for each lane
pub record Group : Type 0 where
  pub key : List ℕ
  pub rows : ℕ
  pub slots : List SlotState

unfoldable pub tuple_bytes : List Bool → Group → List ℕ
tuple_bytes kinds g = group_bytes kinds g.key g.rows g.slots

-- a group that rows can give
abbrev pub IsTuple : ℕ → List Bool → Group → Type 0
IsTuple columns kinds g = IsGroup columns kinds g.key g.rows g.slots

-- groups one after another
unfoldable pub block_bytes : List Bool → List Group → List ℕ
block_bytes kinds block = flat_map (tuple_bytes kinds) block

-- the key of the first group
abbrev pub first_key : List Group → List ℕ
first_key [] = []
first_key (g ∷ block) = g.key

-- at least one group, in at most 2^20 bytes
pub record IsBlock (columns : ℕ) (kinds : List Bool) (block : List Group) : Type 0 where
  pub some : 0 < length block
  pub each : All (IsTuple columns kinds) block
  pub short : length (block_bytes kinds block) ≤ 2 ^ 20

abbrev pub block_section : List Bool → List Group → List ℕ
block_section kinds block = section (block_bytes kinds block)

-- sections one after another
unfoldable pub blocks_bytes : List Bool → List (List Group) → List ℕ
blocks_bytes kinds blocks = flat_map (block_section kinds) blocks

-- bytes that go on, after some groups, with no group that rows can give
pub record StopsAfter (columns : ℕ) (kinds : List Bool) (bytes : List ℕ) (count : ℕ) : Type 0 where
  pub front : List Group
  pub many : length front ≡ count
  pub rest : List ℕ
  pub is : bytes ≡ block_bytes kinds front ++ rest
  pub goes_on : 0 < length rest
  pub none : (g : Group) (more : List ℕ) → IsTuple columns kinds g → rest ≡ tuple_bytes kinds g ++ more → ⊥
