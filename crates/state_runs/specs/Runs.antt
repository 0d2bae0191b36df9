-- The tuples of maps in runs, and the groups of all maps.
use Rattle.std.specs.Prelude.{◌≡◌, ◌≤◌, Bool, List, Result, All, IfOk, bytes_eq, length, map}
use Rattle.std.specs.List.{AllZip, IsDistinct, flat_map}
use Rattle.std.specs.declared.alloc.AllocError.{AllocError}
use Rattle.par_model.specs.Refuse.{longest_key}
use Rattle.partial_agg.specs.Groups.{GroupsByKey}
use Rattle.partial_agg.specs.Listed.{listed}
use Rattle.partial_agg.specs.declared.groups.Group.{Group as MapGroup}
use Rattle.line_runs.specs.Entries.{Entry}
use Rattle.state_blocks.specs.Blocks.{Group}
use Rattle.state_groups.specs.Group.{values_bytes}
use Rattle.state_save.specs.Saving.{AreTuplesOf}
use Rattle.state_whole.specs.declared.adding.Shape.{Shape}

-- the groups of all maps, one map after another
abbrev pub groups_in : List GroupsByKey → List MapGroup
groups_in maps = flat_map listed maps

-- no two of them have a key
abbrev pub AreApart : List GroupsByKey → Type 0
AreApart maps = IsDistinct bytes_eq (map (λ group. group.key) (groups_in maps))

-- a tuple as an entry of a run: its key, and what comes after the key in a file
abbrev pub entry_of : List Bool → Group → Entry
entry_of kinds g = (g.key, values_bytes kinds g.rows g.slots)

-- a run has the tuples of some groups, in the order of the table; their keys are short
pub record IsRunOf (shape : Shape) (groups : List MapGroup) (run : List Entry) : Type 0 where
  pub short : All (λ group. length group.key ≤ longest_key) groups
  pub tuples : List Group
  pub are : AreTuplesOf shape groups tuples
  pub is : run ≡ map (entry_of shape.kinds.now) tuples

-- there is a run for each map, of its groups
abbrev pub AreRunsOf : Shape → List GroupsByKey → List (List Entry) → Type 0
AreRunsOf shape maps runs = AllZip (λ groups run. IsRunOf shape (listed groups) run) maps runs

-- the run of a map was made, if there was memory for it
abbrev pub IsMade : Shape → GroupsByKey → Result (List Entry) AllocError → Type 0
IsMade shape groups made = IfOk made (IsRunOf shape (listed groups))
