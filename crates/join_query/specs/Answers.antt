-- What the answers of a join say.
use Rattle.std.specs.Prelude.{ℕ, Result, Ok, Err}
use Rattle.hash_join.specs.declared.JoinAnswer.{JoinAnswer}
use Rattle.hash_join.specs.declared.JoinAnswer.TheVariants as answer
use Rattle.hash_join.specs.declared.Joined.{Joined}
use Rattle.join_query.specs.declared.cause.Cause.TheVariants as cause
use Rattle.join_query.specs.declared.stop.Stop.{Stop}
use Rattle.join_query.specs.declared.stop.Stop.TheVariants as stop
use Rattle.answer_text.specs.declared.status.TheConstants.{TABLE}

-- the exit status: that of a table, or the one that says why there is none
abbrev pub status_in : Result Joined ℕ → ℕ
status_in (Ok joined) = TABLE
status_in (Err status) = status

-- the reason that stands for an answer of `join`
abbrev pub stop_of_join : JoinAnswer → Stop
stop_of_join (answer.Row of_right row why) = stop.Because (cause.Refused of_right row why)
stop_of_join answer.TooManyPairs = stop.Because cause.TooManyPairs
stop_of_join answer.Memory = stop.Memory
