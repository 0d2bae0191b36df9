-- How the groups of generated rows were made.
use Rattle.std.specs.Prelude.{Option, None, Some}
use Rattle.gather_run.specs.Answers.{AreAllGroups}
use Rattle.gather_run.specs.Used.{IsUsed}
use Rattle.gather_run.specs.declared.Gathered.{Gathered}
use Rattle.row_blocks.specs.Blocks.{Table}
use Rattle.gen_query.specs.Generator.{generated}
use Rattle.gen_query.specs.Plan.{bound_gen}
use Rattle.gen_query.specs.Words.{Asked}

-- two workers shared the blocks of these records with the leader, and the groups are those of all rows
pub record IsGatheredOf (records : Table) (g : Gathered) : Type 0 where
  pub groups : AreAllGroups bound_gen records g.groups
  pub used : IsUsed bound_gen records 2 2048 g.finished

-- so it is for the rows that words ask for
abbrev pub IsGatheredBy : Option Asked → Gathered → Type 0
IsGatheredBy None g = ⊥
IsGatheredBy (Some asked) g = IsGatheredOf (generated asked.seed asked.rows) g
