use Rattle.std.proofs.Common.{◌≡◌, ◌*◌, ◌∙◌, List, Some, ap, sym, arith, drop, get_or, length, take}
use Rattle.std.proofs.lemmas.List.{get_or_default}
use Rattle.std.specs.List.{slice_get}
use Rattle.par_model.specs.declared.state.AggState.{AggState}
use Rattle.par_model.specs.declared.state.SlotState.{SlotState}
use Rattle.partial_agg.specs.Lanes.{slots_in}
use Rattle.partial_agg.proofs.Lanes.{get-states_in, lanes_within, place_within}
use Rattle.partial_agg.proofs.states.StateList.get.Goals as goal

pub overflow_mul-at : goal.overflow_mul-at
overflow_mul-at c =
    let here = place_within c.self.inside.layout c.self.inside.rows.items c.self.inside.lanes.items c.args.self.now c.args.at c.self.view_is c.requires in
    let there = lanes_within c.self.inside.layout c.self.inside.rows.items c.self.inside.lanes.items c.args.at c.width-width.result c.width-width.ensures.width here c.self.invariant.whole in
    omega (arith, there)

pub lanes_at-lanes-requires : goal.lanes_at-lanes-requires
lanes_at-lanes-requires c =
    let here = place_within c.self.inside.layout c.self.inside.rows.items c.self.inside.lanes.items c.args.self.now c.args.at c.self.view_is c.requires in
    let there = lanes_within c.self.inside.layout c.self.inside.rows.items c.self.inside.lanes.items c.args.at c.width-width.result c.width-width.ensures.width here c.self.invariant.whole in
    omega (arith, there, ap (length {A = SlotState}) c.deref.ensures.value)

pub index-requires : goal.index-requires
index-requires c =
    let here = place_within c.self.inside.layout c.self.inside.rows.items c.self.inside.lanes.items c.args.self.now c.args.at c.self.view_is c.requires in
    omega (arith, here)

pub returns : goal.returns
returns c =
    let layout = c.self.inside.layout in
    let rows = c.self.inside.rows.items in
    let lanes = c.self.inside.lanes.items in
    let here = place_within layout rows lanes c.args.self.now c.args.at c.self.view_is c.requires in
    let count : get_or rows c.args.at 0 ≡ c.index.result.now = get_or_default rows c.args.at 0 c.index.result.now here ∙ sym c.index.ensures in
    let part : c.lanes_at-lanes.result.now ≡ take layout.width (drop (c.args.at * layout.width) lanes) = c.lanes_at-lanes.ensures ∙ (λ i. take (c.width-width.ensures.width i) (drop (c.args.at * c.width-width.ensures.width i) (c.deref.ensures.value i))) in
    let slots : slots_in layout.parts (take layout.width (drop (c.args.at * layout.width) lanes)) ≡ c.expand.result = sym (c.expand.ensures ∙ ap (slots_in layout.parts) part) in
    ap (λ (states : List AggState). slice_get states c.args.at) (sym c.self.view_is)
    ∙ get-states_in layout rows lanes c.args.at here
    ∙ (λ i. Some (record { rows = count i; slots = slots i }))
