-- The lines of a table in runs, one for each map.
use Rattle.std.specs.Prelude.{◌≤◌, ℕ, List, Result, All, IfOk, length, map}
use Rattle.std.specs.List.{AllZip}
use Rattle.std.specs.List.Sorted.{IsPermutation, IsStrictlySortedBy}
use Rattle.std.specs.declared.alloc.AllocError.{AllocError}
use Rattle.par_model.specs.Plan.{Plan}
use Rattle.par_model.specs.Refuse.{longest_key}
use Rattle.par_model.specs.Table.{columns_cmp}
use Rattle.partial_agg.specs.Groups.{GroupsByKey}
use Rattle.partial_agg.specs.Listed.{listed}
use Rattle.partial_agg.specs.declared.groups.Group.{Group}
use Rattle.result_text.specs.KeyColumns.{columns_in}
use Rattle.line_runs.specs.Entries.{Entry, entry_of}

-- entries rise strictly, by this many columns
abbrev pub Rise : ℕ → List Entry → Type 0
Rise count entries = IsStrictlySortedBy columns_cmp (map (λ entry. columns_in count entry.0) entries)

-- a run has the lines of some groups, in the order of the table; their keys are short
pub record IsRunOf (plan : Plan) (groups : List Group) (run : List Entry) : Type 0 where
  pub short : All (λ group. length group.key ≤ longest_key) groups
  pub same : IsPermutation (map (entry_of plan) groups) run
  pub rises : Rise (length plan.groups) run

-- there is a run for each map, of the lines of its groups
abbrev pub AreRunsOf : Plan → List GroupsByKey → List (List Entry) → Type 0
AreRunsOf plan maps runs = AllZip (λ groups run. IsRunOf plan (listed groups) run) maps runs

-- the run of a map's lines was made, if there was memory for it
abbrev pub IsMade : Plan → GroupsByKey → Result (List Entry) AllocError → Type 0
IsMade plan groups made = IfOk made (IsRunOf plan (listed groups))
