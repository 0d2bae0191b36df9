-- That what rows come to can be read from a file.
use Rattle.std.specs.Prelude.{◌≡◌, ◌≤◌, ◌^◌, ℕ, List, [], All, length}
use Rattle.std.specs.FinMap as map
use Rattle.par_model.specs.Plan.{Plan}
use Rattle.partial_agg.specs.Groups.{AreGroups, GroupsByKey}
use Rattle.partial_agg.specs.Listed.{listed}
use Rattle.partial_agg.specs.Rows.{IsAccepted}
use Rattle.row_blocks.specs.Blocks.{Table}
use Rattle.state_front.specs.Front.{IsFront}
use Rattle.state_head.specs.Words.{Keys}
use Rattle.state_load.specs.Loading.{stretches_of, sum_of}
use Rattle.state_save.specs.Saving.{IsTold}
use Rattle.state_whole.specs.Adding.{IsShapeOf}
use Rattle.state_whole.specs.Files.{IsStateFile, StateFile}
use Rattle.state_whole.specs.declared.adding.Shape.{Shape}
use Rattle.state_law.specs.Law.{IsOneOf}
use Rattle.state_law.specs.Sources.{Work, plan_in, rows_in}
use Rattle.state_law.specs.Truth.{IsTrueOf}

-- the groups of at most 2^50 rows, of which none is refused, are such as a reader takes
abbrev pub GroupsAreTold : Type 0
GroupsAreTold = (plan : Plan) (width : ℕ) (shape : Shape) (rows : Table) (groups : GroupsByKey) → IsShapeOf plan shape → All (IsAccepted plan width) rows → length rows ≤ 2 ^ 50 → AreGroups plan rows groups
    → All (IsTold shape) (listed groups)

-- the range of all keys
abbrev pub all_keys : Keys
all_keys = record { low = []; high = [] }

-- so are those of files that say what is so, added up
abbrev pub SumIsTold : Type 0
SumIsTold = (w : Work) (shape : Shape) (files : List StateFile) → IsShapeOf (plan_in w) shape → All (IsTrueOf w) files → length (rows_in w (stretches_of files)) ≤ 2 ^ 50 → All (IsTold shape) (listed (sum_of shape map.empty files))

-- so a reader takes the one file that they are put together to, if its head is no longer than a head may be
abbrev pub CombinedIsRead : Type 0
CombinedIsRead = (w : Work) (files : List StateFile) (f : StateFile) (one : IsOneOf w files f) → All (IsTrueOf w) files → length (rows_in w (stretches_of files)) ≤ 2 ^ 50 → one.keys ≡ all_keys → IsFront f.preface
    → IsStateFile one.shape.columns one.shape.kinds.now f
