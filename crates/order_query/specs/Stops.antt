-- The reason that stands for an answer of `merge`.
use Rattle.std.specs.Prelude.{◌≡◌, ◌⊎◌}
use Rattle.gather_merge.specs.declared.MergeAnswer.{MergeAnswer}
use Rattle.gather_merge.specs.declared.MergeAnswer.TheVariants as merging
use Rattle.par_model.specs.Named.{NamedPlan}
use Rattle.table_query.specs.Stops.{IsRefusedRow}
use Rattle.table_query.specs.declared.stop.Stop.{Stop}
use Rattle.table_query.specs.declared.stop.Stop.TheVariants as stop

-- the reason says what the answer says, which names no aggregate, or is out of memory
abbrev pub RestatesMerge : NamedPlan → MergeAnswer → Stop → Type 0
RestatesMerge plan (merging.Row row cause) why = IsRefusedRow plan row (record { cause = cause; item = 0 }) why ⊎ (why ≡ stop.Memory)
RestatesMerge plan merging.Memory why = why ≡ stop.Memory
