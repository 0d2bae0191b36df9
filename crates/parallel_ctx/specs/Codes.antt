-- The codes by which proofs tell the states of a table of groups apart.
use Rattle.std.specs.Coded.{Coded, coded_list, coded_ℕ}
use Rattle.std.specs.FinMap as fin
use Rattle.dshash_core.specs.Cells.{KeyMap, PartitionView, partition_code}
use Rattle.dshash_parts.specs.States.{PartitionState, state_code as state_code_of}
use Rattle.par_model.specs.declared.state.AggState.{AggState}
use Rattle.partial_agg.specs.Groups.{state_code}

abbrev pub cells_code : Coded (KeyMap AggState)
cells_code = fin.code (coded_list coded_ℕ) state_code

abbrev pub part_state_code : Coded (PartitionState AggState)
part_state_code = state_code_of state_code

abbrev pub part_view_code : Coded (PartitionView AggState)
part_view_code = partition_code state_code
