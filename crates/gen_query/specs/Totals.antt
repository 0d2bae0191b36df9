-- The rows and the sums of groups, added up.
use Rattle.std.specs.Prelude.{◌≤◌, ◌^◌, ℕ, ℤ, pos, neg_ℤ, ◌≤ℤ◌, List, get_or, map}
use Rattle.std.specs.List.{sum_by}
use Rattle.par_model.specs.Aggregate.{no_values, total}
use Rattle.partial_agg.specs.declared.groups.Group.{Group}

-- the sum of a group: its second aggregate
abbrev pub sum_of : Group → ℤ
sum_of group = (get_or group.state.slots 1 no_values).sum

abbrev pub rows_of : Group → ℕ
rows_of group = group.state.rows

-- those of all groups
abbrev pub all_rows : List Group → ℕ
all_rows groups = sum_by rows_of groups

abbrev pub all_sums : List Group → ℤ
all_sums groups = total (map sum_of groups)

-- a group with so few rows that each sum is far from its bounds
pub record IsSmall (group : Group) : Type 0 where
  pub rows : rows_of group ≤ 2 ^ 32
  pub low : neg_ℤ (pos (2 ^ 95)) ≤ℤ sum_of group
  pub high : sum_of group ≤ℤ pos (2 ^ 95)
