-- What has to hold before the first worker starts.
use Rattle.std.specs.Prelude.{◌≡◌, ◌≤◌, List, [], Vec, ℕ, length, vec_len, vec_capacity}
use Rattle.std.specs.Global.{Global}
use Rattle.std.specs.List.{All}
use Rattle.par_model.specs.Plan.{Plan}
use Rattle.parallel_ctx.specs.declared.tokens.Shared.{Shared}
use Rattle.parallel_ctx.specs.declared.tokens.Hand.{Hand}
use Rattle.parallel_ctx.specs.declared.tokens.Seats.{Seats}
use Rattle.parallel_ctx.specs.declared.tokens.LeaderEnds.{LeaderEnds}
use Rattle.parallel_ctx.specs.Returns.{CanLead, CanWork}

-- a list that is empty, with room for this many
abbrev pub HasRoom : {A : Type 0} → ℕ → Vec A Global → Type 0
HasRoom count v = (v.items ≡ []) × (count ≤ vec_capacity v)

-- all tokens are fresh, there is a flag for each worker, and both lists have room for all workers
pub record IsReady {F P B : Type 0} (asks leads : Plan → ℕ → Type 0) (w : Shared) (flags : List F) (hands : Vec Hand Global) (placed : Vec P Global) (backs : Vec B Global) (leader : Seats) (queues : Vec LeaderEnds Global) : Type 0 where
  pub fresh : All (CanWork asks w) hands.items
  pub flags_each : length flags ≡ vec_len hands
  pub placed_room : HasRoom (vec_len hands) placed
  pub backs_room : HasRoom (vec_len hands) backs
  pub lead : CanLead leads w leader queues.items
