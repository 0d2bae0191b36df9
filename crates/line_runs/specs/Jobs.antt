-- Maps whose lines are made.
use Rattle.std.specs.Prelude.{◌≡◌, ◌<◌, ℕ, List, length, slice_index_or}
use Rattle.par_model.specs.Plan.{Plan}
use Rattle.line_runs.specs.Runs.{IsMade}
use Rattle.line_runs.specs.declared.texts.Job.{Job}

-- a job has the run of the lines of the map that it had, if there was memory for it
abbrev pub IsDone : Plan → Job → Job → Type 0
IsDone plan old new = IsMade plan old.map new.run

-- likewise of all jobs, in order
pub record AreDone (plan : Plan) (olds news : List Job) : Type 0 where
  pub count : length news ≡ length olds
  pub each : (k : ℕ) (d : Job) → k < length olds → IsDone plan (slice_index_or olds k d) (slice_index_or news k d)
