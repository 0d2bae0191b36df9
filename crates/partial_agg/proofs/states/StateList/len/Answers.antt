use Rattle.std.proofs.Common.{◌≡◌, ◌∙◌, ap, sym, rules, length}
use Rattle.par_model.specs.declared.state.AggState.{AggState}
use Rattle.partial_agg.proofs.Lanes.{length-states_in}
use Rattle.partial_agg.proofs.states.StateList.len.Goals as goal

pub returns : goal.returns
returns c =
    let size : c.len.result ≡ length c.self.inside.rows.items = search rules in
    size ∙ sym (length-states_in c.self.inside.layout c.self.inside.rows.items c.self.inside.lanes.items) ∙ ap (length {A = AggState}) c.self.view_is
