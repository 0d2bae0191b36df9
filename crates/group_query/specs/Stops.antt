-- The reason that stands for an answer on the rows of a table.
use Rattle.std.specs.Prelude.{◌≡◌, ◌⊎◌}
use Rattle.gather_run.specs.declared.GatherAnswer.{GatherAnswer}
use Rattle.gather_run.specs.declared.GatherAnswer.TheVariants as gathering
use Rattle.par_model.specs.Named.{NamedPlan}
use Rattle.partial_agg.specs.declared.map.BlockAnswer.{BlockAnswer}
use Rattle.partial_agg.specs.declared.map.BlockAnswer.TheVariants as answer
use Rattle.table_query.specs.Stops.{IsRefusedRow}
use Rattle.table_query.specs.declared.stop.Stop.{Stop}
use Rattle.table_query.specs.declared.stop.Stop.TheVariants as stop

-- the reason says of an answer of a block what the answer says, or is out of memory
abbrev pub Restates : NamedPlan → BlockAnswer → Stop → Type 0
Restates plan (answer.Row row cause item) why = IsRefusedRow plan row (record { cause = cause; item = item }) why ⊎ (why ≡ stop.Memory)
Restates plan answer.Memory why = why ≡ stop.Memory

-- the reason says of an answer of `gather` what the answer says, or is out of memory
abbrev pub RestatesGather : NamedPlan → GatherAnswer → Stop → Type 0
RestatesGather plan (gathering.Row row cause item) why = IsRefusedRow plan row (record { cause = cause; item = item }) why ⊎ (why ≡ stop.Memory)
RestatesGather plan gathering.Memory why = why ≡ stop.Memory
