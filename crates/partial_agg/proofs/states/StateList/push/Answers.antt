use Rattle.std.proofs.Common.{◌≡◌, ◌++◌, ◌∷◌, [], ◌∙◌, ℕ, List, ap, arith, length, take}
use Rattle.std.proofs.lemmas.List.{take_all}
use Rattle.par_model.specs.declared.state.SlotState.{SlotState}
use Rattle.partial_agg.specs.Lanes.{lanes_of, slots_in, states_in}
use Rattle.partial_agg.proofs.Lanes.{laid_anew, push-states_in, whole_anew}
use Rattle.partial_agg.proofs.states.StateList.push.Goals as goal

pub returns-clause-ok : goal.returns-clause-ok
returns-clause-ok c =
    let layout = c.make_fit.new.layout in
    let rows = c.self.inside.rows.items in
    let lanes = c.make_fit.new.lanes.items in
    let state = c.args.state.now in
    let view : states_in layout rows lanes ≡ c.args.self.now = laid_anew c.self.inside.layout layout rows c.deref.result.now c.self.inside.lanes.items lanes c.args.self.now c.deref.ensures.value c.make_fit.ensures.same c.self.view_is in
    let whole = whole_anew layout rows c.deref.result.now lanes c.deref.ensures.value c.make_fit.ensures.whole in
    let theirs = take c.width.result c.lanes-lanes.result in
    let are : theirs ≡ lanes_of layout state.slots = ap (λ (n : ℕ). take n c.lanes-lanes.result) c.width.ensures.width ∙ c.lanes-lanes.ensures.lanes in
    let long : length theirs ≡ layout.width = ap (length {A = SlotState}) are ∙ c.lanes-lanes.ensures.width in
    let told : slots_in layout.parts (take layout.width theirs) ≡ state.slots = ap (slots_in layout.parts) (take_all layout.width theirs (omega (arith, long)) ∙ are) ∙ c.in_ok-make_fit.ensures.fits in
    let all_rows : c.push_reserved.new.self.items ≡ rows ++ state.rows ∷ [] = c.push_reserved.ensures.items ∙ ap (λ (rs : List ℕ). rs ++ state.rows ∷ []) c.reserve.ensures.items in
    (λ i. states_in layout (all_rows i) (c.in_ok-extend_from_slice.ensures.items i))
    ∙ push-states_in layout rows lanes theirs state.rows whole
    ∙ (λ i. view i ++ record { rows = state.rows; slots = told i } ∷ [])
