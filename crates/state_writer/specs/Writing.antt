-- How a writer puts groups into blocks, and what it has written so far.
use Rattle.std.specs.Prelude.{◌≡◌, ◌<◌, ◌≤◌, ◌+◌, ◌^◌, ◌++◌, ℕ, Bool, List, [], ◌∷◌, All, fold, if◌then◌else◌, length, nat_le}
use Rattle.par_model.specs.declared.state.SlotState.{SlotState}
use Rattle.state_blocks.specs.Blocks.{Group, block_bytes, blocks_bytes, first_key}
use Rattle.state_body.specs.Body.{IsIndex, body_bytes, foot_bytes}
use Rattle.state_writer.specs.declared.writer.BodyWriter.{BodyWriter}

-- the blocks that are full, and the groups of the one that is not
pub record Cut : Type 0 where
  pub full : List (List Group)
  pub begun : List Group

-- a group of these parts
abbrev pub group_of : List ℕ → ℕ → List SlotState → Group
group_of key rows slots = record { key = key; rows = rows; slots = slots }

-- one group more: it ends its block if it takes it to 60,000 bytes or more
abbrev pub cut_more : List Bool → Cut → Group → Cut
cut_more kinds c g =
    if nat_le 60_000 (length (block_bytes kinds (c.begun ++ g ∷ []))) then record { full = c.full ++ (c.begun ++ g ∷ []) ∷ []; begun = [] }
    else record { full = c.full; begun = c.begun ++ g ∷ [] }

-- these groups, one after another
unfoldable pub cut : List Bool → List Group → Cut
cut kinds groups = fold (cut_more kinds) (record { full = []; begun = [] }) groups

-- the block that is not full is the last one, if it has a group
abbrev pub closed : List (List Group) → List Group → List (List Group)
closed full [] = full
closed full (g ∷ begun) = full ++ (g ∷ begun) ∷ []

-- the blocks in which a writer puts some groups
abbrev pub blocks_of : List Bool → List Group → List (List Group)
blocks_of kinds groups = closed (cut kinds groups).full (cut kinds groups).begun

-- a block that a file can have, if rows can give its groups
pub record IsShort (kinds : List Bool) (block : List Group) : Type 0 where
  pub some : 0 < length block
  pub short : length (block_bytes kinds block) ≤ 2 ^ 20

-- a writer whose first block began at this place has these groups, and has written these bytes
pub record Holds (kinds : List Bool) (start : ℕ) (c : Cut) (written : List ℕ) (w : BodyWriter) : Type 0 where
  pub written_is : written ≡ blocks_bytes kinds c.full
  pub each : All (IsShort kinds) c.full
  pub index : IsIndex kinds start c.full w.index
  pub block : w.block.items ≡ block_bytes kinds c.begun
  pub many : w.groups ≡ length c.begun
  pub first : 0 < w.groups → w.first.items ≡ first_key c.begun

abbrev pub HasTaken : List Bool → ℕ → List Group → List ℕ → BodyWriter → Type 0
HasTaken kinds start groups written w = Holds kinds start (cut kinds groups) written w

-- it has taken these groups, and put more bytes behind those before
pub record Goes (kinds : List Bool) (start : ℕ) (groups : List Group) (written old new : List ℕ) (w : BodyWriter) : Type 0 where
  pub more : List ℕ
  pub is : new ≡ old ++ more
  pub taken : HasTaken kinds start groups (written ++ more) w

-- the whole body of these groups is written
pub record Ends (kinds : List Bool) (start : ℕ) (groups : List Group) (written old new : List ℕ) : Type 0 where
  pub more : List ℕ
  pub is : new ≡ old ++ more
  pub body : written ++ more ≡ body_bytes kinds start (blocks_of kinds groups)
  pub each : All (IsShort kinds) (blocks_of kinds groups)
  pub short : length (foot_bytes kinds start (blocks_of kinds groups)) ≤ 2 ^ 28

-- blocks that a file can have: each of at most 2^20 bytes, all of them before place 2^62, with at most 2^62 groups
pub record FitInBlocks (kinds : List Bool) (start : ℕ) (groups : List Group) : Type 0 where
  pub each : All (IsShort kinds) (blocks_of kinds groups)
  pub end : start + length (blocks_bytes kinds (blocks_of kinds groups)) ≤ 2 ^ 62
  pub many : length groups ≤ 2 ^ 62

-- a body that a file can have: its foot has at most 2^28 bytes
pub record Fit (kinds : List Bool) (start : ℕ) (groups : List Group) : Type 0 where
  pub in_blocks : FitInBlocks kinds start groups
  pub foot : length (foot_bytes kinds start (blocks_of kinds groups)) ≤ 2 ^ 28

-- what a writer holds fits: the block that is not written, the place of the next one, how many blocks and groups there are
pub record Fits (w : BodyWriter) : Type 0 where
  pub block : length w.block.items ≤ 2 ^ 20
  pub at : w.index.at ≤ 2 ^ 62
  pub blocks : w.index.blocks ≤ 2 ^ 62
  pub groups : w.index.groups ≤ 2 ^ 62
  pub begun : w.groups ≤ 2 ^ 62
