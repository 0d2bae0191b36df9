-- Groups of participants, each with its part.
use Rattle.std.specs.Prelude.{◌≡◌, ◌<◌, ℕ, List, Result, All, IfOk, length, map, slice_index_or}
use Rattle.std.specs.declared.alloc.AllocError.{AllocError}
use Rattle.gather_law.specs.KeyParts.{part_map}
use Rattle.partial_agg.specs.Groups.{GroupsByKey}
use Rattle.partial_agg.specs.declared.groups.Group.{Group}
use Rattle.row_lists.specs.Parts.{part_of}
use Rattle.part_run.specs.declared.moving.LentParts.{LentParts}

-- the groups of each list
abbrev pub lists_of : List LentParts → List (List Group)
lists_of lists = map (λ list. list.groups) lists

-- the groups of a list have all slots, and there is the part of each
pub record IsLent (list : LentParts) : Type 0 where
  pub parts : list.parts.items ≡ map (λ group. part_of group.key) list.groups
  pub whole : All (λ group. length group.state.slots ≡ 8) list.groups

-- the map of a part of some lists, if there was memory for it
pub record IsMade (lists : List LentParts) (part : ℕ) (made : Result GroupsByKey AllocError) : Type 0 where
  pub are : IfOk made (λ groups. groups ≡ part_map part_of part (lists_of lists))

-- likewise of each part
pub record AreMade (lists : List LentParts) (olds news : List (Result GroupsByKey AllocError)) : Type 0 where
  pub count : length news ≡ length olds
  pub each : (part : ℕ) (d : Result GroupsByKey AllocError) → part < length olds → IsMade lists part (slice_index_or news part d)
