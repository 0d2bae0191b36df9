use Rattle.std.proofs.Common.{◌≡◌, ◌≤◌, ◌*◌, ◌∙◌, ℕ, ap, sym, arith, length, take}
use Rattle.par_model.specs.declared.state.AggState.{AggState}
use Rattle.partial_agg.specs.Lanes.{states_in}
use Rattle.partial_agg.proofs.Lanes.{at_most, length-states_in, take-states_in}
use Rattle.partial_agg.proofs.states.StateList.truncate.Goals as goal

pub overflow_mul-len : goal.overflow_mul-len
overflow_mul-len c =
    let rows = c.self.inside.rows.items in
    let few : c.args.len ≤ length rows = omega (arith, c.requires, ap (length {A = AggState}) c.self.view_is, length-states_in c.self.inside.layout rows c.self.inside.lanes.items) in
    let whole : length c.self.inside.lanes.items ≡ length rows * c.width.result = c.self.invariant.whole ∙ ap (λ (n : ℕ). length rows * n) (sym c.width.ensures.width) in
    omega (arith, at_most c.args.len (length rows) c.width.result few, whole)

pub returns : goal.returns
returns c =
    let layout = c.self.inside.layout in
    let rows = c.self.inside.rows.items in
    let lanes = c.self.inside.lanes.items in
    let few : c.args.len ≤ length rows = omega (arith, c.requires, ap (length {A = AggState}) c.self.view_is, length-states_in layout rows lanes) in
    (λ i. states_in layout (c.truncate-2.ensures.items i) (c.truncate.ensures.items i))
    ∙ ap (λ (n : ℕ). states_in layout (take c.args.len rows) (take (c.args.len * n) lanes)) c.width.ensures.width
    ∙ take-states_in layout rows lanes c.args.len few
    ∙ ap (take c.args.len) c.self.view_is
