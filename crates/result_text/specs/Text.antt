-- The table of some groups, and its text: the header, and a line for each group in order of its columns.
use Rattle.std.specs.Prelude.{◌≡◌, ◌≤◌, ◌==◌, ◌&&◌, ◌++◌, ◌∷◌, [], ℕ, List, All, if◌then◌else◌, length, map}
use Rattle.std.specs.List.Sorted.{IsPermutation, IsStrictlySortedBy}
use Rattle.par_model.specs.Key.{encoded}
use Rattle.par_model.specs.Named.{NamedPlan}
use Rattle.par_model.specs.Plan.{Plan}
use Rattle.par_model.specs.Table.{columns_cmp, table_header, table_text, values_text}
use Rattle.par_model.specs.declared.state.AggState.{AggState}
use Rattle.partial_agg.specs.State.{empty_state}
use Rattle.partial_agg.specs.declared.groups.Group.{Group}

-- a line of the table: the columns of a group, and its aggregates
abbrev pub Line : Type 0
Line = List (List ℕ) × AggState

-- the group of a line
abbrev pub group_of_line : Line → Group
group_of_line line = record { key = encoded line.0; state = line.1 }

-- the record of a line: the columns, then the values
abbrev pub line_record : Plan → Line → List (List ℕ)
line_record plan line = line.0 ++ values_text plan line.1

-- the lines that are shown: all of them, or that of no rows if there is no column to group by and no group
abbrev pub shown : Plan → List Line → List Line
shown plan lines = if (length plan.groups == 0) && (length lines == 0) then ([], empty_state) ∷ [] else lines

-- a table has the header, and a line for each group, in rising order of the groups' columns
pub record IsGroupsTable (names : NamedPlan) (plan : Plan) (groups : List Group) (table : List (List (List ℕ))) : Type 0 where
  pub lines : List Line
  pub rising : IsStrictlySortedBy columns_cmp (map (λ line. line.0) lines)
  pub same : IsPermutation groups (map group_of_line lines)
  pub is : table ≡ table_header names ∷ map (line_record plan) (shown plan lines)

-- a text is that of the table of some groups
pub record IsTextOf (names : NamedPlan) (plan : Plan) (groups : List Group) (text : List ℕ) : Type 0 where
  pub table : List (List (List ℕ))
  pub each : IsGroupsTable names plan groups table
  pub is : text ≡ table_text table

-- a text has the lines of some groups, in rising order of the groups' columns, and no header
pub record AreLinesOf (plan : Plan) (groups : List Group) (text : List ℕ) : Type 0 where
  pub lines : List Line
  pub short : All (λ group. length group.key ≤ 248) groups
  pub rising : IsStrictlySortedBy columns_cmp (map (λ line. line.0) lines)
  pub same : IsPermutation groups (map group_of_line lines)
  pub is : text ≡ table_text (map (line_record plan) lines)
