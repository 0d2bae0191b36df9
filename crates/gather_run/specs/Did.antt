-- What a worker of a query did, and answers by their reasons.
use Rattle.std.specs.Prelude.{◌≡◌, ℕ}
use Rattle.par_model.specs.Plan.{Plan}
use Rattle.row_blocks.specs.Blocks.{Table}
use Rattle.parallel_ctx.specs.Accounts.{Account}
use Rattle.partial_agg.specs.declared.map.BlockAnswer.{BlockAnswer}
use Rattle.partial_agg.specs.declared.map.BlockAnswer.TheVariants as block
use Rattle.gather_run.specs.declared.GatherAnswer.{GatherAnswer}
use Rattle.gather_run.specs.declared.GatherAnswer.TheVariants.{Row, Memory}
use Rattle.worker_run.specs.Ended.{HasEnded, Sends}
use Rattle.worker_run.specs.Tabled.{EndsWith}
use Rattle.worker_run.specs.declared.WorkerEnd.{WorkerEnd}

-- what went out on a worker's queues
abbrev pub sends_in : Account → Sends
sends_in a = record { errors = a.errors; tuples = a.tuples; errors_gone = a.errors_gone; tuples_gone = a.tuples_gone }

-- what it did: all that its end says, with the table of groups if there is one
abbrev pub DidWork : Plan → Table → ℕ → Account → WorkerEnd → Type 0
DidWork plan records blocks a end = EndsWith plan records blocks a.draws a.used (sends_in a) end

-- what it did without a table
abbrev pub DidPlainWork : Plan → Table → ℕ → Account → WorkerEnd → Type 0
DidPlainWork plan records blocks a end = HasEnded plan records blocks a.draws (sends_in a) end

-- why a block was not added, or what the workers' ends mean, as an answer
abbrev pub Answers : BlockAnswer → GatherAnswer → Type 0
Answers (block.Row row cause item) answer = answer ≡ Row row cause item
Answers block.Memory answer = answer ≡ Memory
