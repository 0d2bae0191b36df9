use Rattle.std.proofs.Common.{◌+◌, ◌*◌, ◌-◌, length}
use Rattle.gather_merge.specs.Order.{row_cmp}
use Rattle.gather_merge.proofs.Runs.{LevelDone}
use Rattle.gather_merge.proofs.sorting.+levels.Given as goal

abbrev pub decreases-sort_level : goal.decreases-sort_level
decreases-sort_level l = 2 * l.levels + 1

abbrev pub decreases-sort_ties : goal.decreases-sort_ties
decreases-sort_ties l = 2 * l.levels

abbrev pub invariant-sort_level-loop-from : goal.invariant-sort_level-loop-from
invariant-sort_level-loop-from l = record { done : LevelDone (row_cmp l.plan l.rows) l.initial.run l.run l.from }

abbrev pub decreases-sort_level-loop-from : goal.decreases-sort_level-loop-from
decreases-sort_level-loop-from l = length l.initial.run - l.from
