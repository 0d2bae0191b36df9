use Rattle.std.proofs.Common.{◌≡◌, ◌++◌, ◌∷◌, ◌∙◌, [], ℕ, List, ap, map}
use Rattle.std.proofs.lemmas.Option.{get_or_from_slice_get}
use Rattle.std.proofs.lemmas.Result.{IfOk-weaker}
use Rattle.partial_agg.specs.State.{empty_state}
use Rattle.partial_agg.specs.declared.groups.Group.{Group as MapGroup}
use Rattle.line_runs.specs.Entries.{Entry}
use Rattle.state_groups.specs.Group.{values_bytes}
use Rattle.state_lanes.specs.Lanes.{lane_slots}
use Rattle.state_runs.proofs.Making.{made_entry}
use Rattle.state_runs.proofs.runs.push_tuple.Goals as goal

pub returns : goal.returns
returns c =
    let shape = c.args.shape.now in
    let groups = c.args.groups.now in
    let state = c.state-state.result in
    let own = values_bytes shape.kinds.now state.rows (lane_slots shape.lanes.now shape.items.now state.slots) in
    let values : c.as_slice.result.now ≡ own = c.as_slice.ensures.value ∙ c.in_ok-push_state.ensures ∙ ap (λ (bs : List ℕ). bs ++ own) c.clear.ensures.items in
    let entry = made_entry shape groups c.args.group state c.as_slice.result.now (get_or_from_slice_get (map (λ (g : MapGroup). g.state) groups) c.args.group.at state empty_state c.state-state.ensures) values in
    IfOk-weaker c.push.result _ _ (λ more is. is ∙ ap (λ (e : Entry). c.args.run ++ e ∷ []) entry) c.push.ensures
