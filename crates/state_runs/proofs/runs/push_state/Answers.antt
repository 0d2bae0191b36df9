use Rattle.std.proofs.Common.{◌++◌, ◌∙◌, List, ap, arith}
use Rattle.std.proofs.lemmas.Result.{on_ok_weaker}
use Rattle.par_model.specs.declared.state.SlotState.{SlotState}
use Rattle.state_groups.specs.Group.{values_bytes}
use Rattle.state_runs.proofs.Making.{enough}
use Rattle.state_runs.proofs.runs.push_state.Goals as goal

pub push_values-requires : goal.push_values-requires
push_values-requires c = enough c.args.shape.now c.lane_slots-found.result c.requires (omega arith)

pub returns : goal.returns
returns c =
    on_ok_weaker c.push_values.result (λ e. e ∙ ap (λ (ss : List SlotState). c.args.out.now.items ++ values_bytes c.args.shape.now.kinds.now c.args.state.now.rows ss) c.lane_slots-found.ensures) c.push_values.ensures
