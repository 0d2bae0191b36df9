use Rattle.std.proofs.Common.{◌≡◌, length, subst}
use Rattle.std.specs.Prelude.{All}
use Rattle.par_model.specs.declared.state.AggState.{AggState}
use Rattle.partial_agg.proofs.Lanes.{whole-states_in}
use Rattle.partial_agg.proofs.states.StateList.are_whole.Goals as goal

pub returns : goal.returns
returns c =
    subst (All (λ (state : AggState). length state.slots ≡ 8)) c.self.view_is
    (whole-states_in c.self.inside.layout c.self.inside.rows.items c.self.inside.lanes.items c.has_all_parts.ensures)
