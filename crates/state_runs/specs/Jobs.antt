-- Maps whose runs are made.
use Rattle.std.specs.Prelude.{◌≡◌, ◌<◌, ℕ, List, length, slice_index_or}
use Rattle.state_runs.specs.Runs.{IsMade}
use Rattle.state_runs.specs.declared.runs.Job.{Job}
use Rattle.state_whole.specs.declared.adding.Shape.{Shape}

-- a job has the run of the map that it had, if there was memory for it
abbrev pub IsDone : Shape → Job → Job → Type 0
IsDone shape old new = IsMade shape old.map new.run

-- likewise of all jobs, in order
pub record AreDone (shape : Shape) (olds news : List Job) : Type 0 where
  pub count : length news ≡ length olds
  pub each : (k : ℕ) (d : Job) → k < length olds → IsDone shape (slice_index_or olds k d) (slice_index_or news k d)
