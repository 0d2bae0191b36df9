-- Why bytes do not begin with what a file of states has after its head.
use Rattle.std.specs.Prelude.{◌≡◌, ◌≢◌, ◌<◌, ◌≤◌, ◌+◌, ◌^◌, ◌++◌, ◌⊎◌, ℕ, Bool, List, [], All, length}
use Rattle.std.specs.Int.{to_le_bytes, w32}
use Rattle.state_blocks.specs.Blocks.{Group, IsBlock, StopsAfter, blocks_bytes}
use Rattle.state_body.specs.Body.{foot_bytes, groups_of, last_bytes}
use Rattle.state_body.specs.declared.body.BodyFault.{BodyFault}
use Rattle.state_body.specs.declared.body.BodyFault.TheVariants.{Block, Cut, End, Foot, Memory, OtherFoot}
use Rattle.state_body.specs.declared.body.BodyFault.TheVariants as fault
use Rattle.state_file.specs.Section.{IsNoSection, section}
use Rattle.state_file.specs.declared.section.SectionRead.{SectionRead}

-- after some blocks there is no section of at most 2^20 bytes
pub record HasNoBlock (columns : ℕ) (kinds : List Bool) (bytes : List ℕ) (why : SectionRead) : Type 0 where
  pub blocks : List (List Group)
  pub each : All (IsBlock columns kinds) blocks
  pub rest : List ℕ
  pub is : bytes ≡ blocks_bytes kinds blocks ++ rest
  pub none : IsNoSection (2 ^ 20) rest why

-- these bytes, before which there are this many groups, have none of this number that rows can give; the first of all is 1
pub record HasNoGroup (columns : ℕ) (kinds : List Bool) (part : List ℕ) (before number : ℕ) : Type 0 where
  pub count : ℕ
  pub stops : StopsAfter columns kinds part count
  pub number_is : number ≡ before + count + 1

-- after some blocks comes a section of such bytes
pub record HasBadBlock (columns : ℕ) (kinds : List Bool) (bytes : List ℕ) (number : ℕ) : Type 0 where
  pub blocks : List (List Group)
  pub each : All (IsBlock columns kinds) blocks
  pub part : List ℕ
  pub rest : List ℕ
  pub is : bytes ≡ blocks_bytes kinds blocks ++ (section part ++ rest)
  pub none : HasNoGroup columns kinds part (length (groups_of blocks)) number

-- why bytes do not begin with a section that a block can be
abbrev pub IsNoPart : List ℕ → BodyFault → Type 0
IsNoPart bytes Memory = ⊥
IsNoPart bytes (Block why) = IsNoSection (2 ^ 20) bytes why
IsNoPart bytes (fault.Group number) = ⊥
IsNoPart bytes (Foot why) = ⊥
IsNoPart bytes OtherFoot = ⊥
IsNoPart bytes Cut = ⊥
IsNoPart bytes End = ⊥

-- why the bytes of a section, before which there are this many groups, are no block
abbrev pub IsNoBlock : ℕ → List Bool → List ℕ → ℕ → BodyFault → Type 0
IsNoBlock columns kinds part before Memory = Unit {0}
IsNoBlock columns kinds part before (Block why) = ⊥
IsNoBlock columns kinds part before (fault.Group number) = HasNoGroup columns kinds part before number
IsNoBlock columns kinds part before (Foot why) = ⊥
IsNoBlock columns kinds part before OtherFoot = ⊥
IsNoBlock columns kinds part before Cut = ⊥
IsNoBlock columns kinds part before End = ⊥

-- why bytes do not begin with blocks and their end
abbrev pub AreNoBlocks : ℕ → List Bool → List ℕ → BodyFault → Type 0
AreNoBlocks columns kinds bytes Memory = Unit {0}
AreNoBlocks columns kinds bytes (Block why) = HasNoBlock columns kinds bytes why
AreNoBlocks columns kinds bytes (fault.Group number) = HasBadBlock columns kinds bytes number
AreNoBlocks columns kinds bytes (Foot why) = ⊥
AreNoBlocks columns kinds bytes OtherFoot = ⊥
AreNoBlocks columns kinds bytes Cut = ⊥
AreNoBlocks columns kinds bytes End = ⊥

-- bytes that begin with a section that is not that of this foot
pub record HasOtherFoot (foot bytes : List ℕ) : Type 0 where
  pub part : List ℕ
  pub rest : List ℕ
  pub is : bytes ≡ section part ++ rest
  pub other : part ≢ foot

-- or with the foot, after which there are fewer than the twelve bytes of its length and the last bytes
pub record HasShortEnd (foot bytes : List ℕ) : Type 0 where
  pub rest : List ℕ
  pub is : bytes ≡ section foot ++ rest
  pub short : length rest < 12

-- or with the foot, after which twelve bytes or more come, which are not its length and the last bytes
pub record HasOtherEnd (foot bytes : List ℕ) : Type 0 where
  pub rest : List ℕ
  pub is : bytes ≡ section foot ++ rest
  pub long : 12 ≤ length rest
  pub other : (more : List ℕ) → rest ≡ (to_le_bytes w32 (length foot) ++ last_bytes) ++ more → ⊥

-- why bytes do not begin with this foot and the end of the file
abbrev pub IsNoEnd : List ℕ → List ℕ → BodyFault → Type 0
IsNoEnd foot bytes Memory = ⊥
IsNoEnd foot bytes (Block why) = ⊥
IsNoEnd foot bytes (fault.Group number) = ⊥
IsNoEnd foot bytes (Foot why) = IsNoSection (2 ^ 28) bytes why
IsNoEnd foot bytes OtherFoot = HasOtherFoot foot bytes
IsNoEnd foot bytes Cut = HasShortEnd foot bytes
IsNoEnd foot bytes End = HasOtherEnd foot bytes

-- after the blocks, the first of which is at this place of the file, and their end, there is no such end
pub record HasNoEnd (columns : ℕ) (kinds : List Bool) (at : ℕ) (bytes : List ℕ) (why : BodyFault) : Type 0 where
  pub blocks : List (List Group)
  pub each : All (IsBlock columns kinds) blocks
  pub rest : List ℕ
  pub is : bytes ≡ blocks_bytes kinds blocks ++ (section [] ++ rest)
  pub none : IsNoEnd (foot_bytes kinds at blocks) rest why

-- why bytes do not begin with a foot's length and the last bytes
abbrev pub IsNoLength : ℕ → List ℕ → BodyFault → Type 0
IsNoLength size bytes Memory = ⊥
IsNoLength size bytes (Block why) = ⊥
IsNoLength size bytes (fault.Group number) = ⊥
IsNoLength size bytes (Foot why) = ⊥
IsNoLength size bytes OtherFoot = ⊥
IsNoLength size bytes Cut = length bytes < 12
IsNoLength size bytes End = (12 ≤ length bytes) × ((more : List ℕ) → bytes ≡ (to_le_bytes w32 size ++ last_bytes) ++ more → ⊥)

-- why bytes are not those that come after a head: there are no blocks with their end, or no end of the file after them
abbrev pub IsNoBody : ℕ → List Bool → ℕ → List ℕ → BodyFault → Type 0
IsNoBody columns kinds at bytes why = AreNoBlocks columns kinds bytes why ⊎ HasNoEnd columns kinds at bytes why
