use Rattle.std.proofs.Common.{◌≡◌, ◌*◌, ◌∙◌, List, ap, sym, arith, drop, get_or, length, take}
use Rattle.std.proofs.lemmas.List.{get_or_default}
use Rattle.std.proofs.lemmas.Option.{get_or_from_slice_get}
use Rattle.par_model.specs.declared.state.AggState.{AggState}
use Rattle.par_model.specs.declared.state.SlotState.{SlotState}
use Rattle.partial_agg.specs.Lanes.{slots_in, states_in}
use Rattle.partial_agg.specs.State.{empty_state}
use Rattle.partial_agg.proofs.Lanes.{get-states_in, lanes_within, place_within}
use Rattle.partial_agg.proofs.states.StateList.read.Goals as goal

pub overflow_mul-at : goal.overflow_mul-at
overflow_mul-at c =
    let here = place_within c.self.inside.layout c.self.inside.rows.items c.self.inside.lanes.items c.args.self.now c.args.at c.self.view_is c.requires.place in
    let there = lanes_within c.self.inside.layout c.self.inside.rows.items c.self.inside.lanes.items c.args.at c.width-width.result c.width-width.ensures.width here c.self.invariant.whole in
    omega (arith, there)

pub lanes_at-lanes-requires : goal.lanes_at-lanes-requires
lanes_at-lanes-requires c =
    let here = place_within c.self.inside.layout c.self.inside.rows.items c.self.inside.lanes.items c.args.self.now c.args.at c.self.view_is c.requires.place in
    let there = lanes_within c.self.inside.layout c.self.inside.rows.items c.self.inside.lanes.items c.args.at c.width-width.result c.width-width.ensures.width here c.self.invariant.whole in
    omega (arith, there, ap (length {A = SlotState}) c.deref.ensures.value)

pub index-requires : goal.index-requires
index-requires c =
    let here = place_within c.self.inside.layout c.self.inside.rows.items c.self.inside.lanes.items c.args.self.now c.args.at c.self.view_is c.requires.place in
    omega (arith, here)

-- the state there
abbrev laid : goal.After-read → List SlotState
laid c = take c.self.inside.layout.width (drop (c.args.at * c.self.inside.layout.width) c.self.inside.lanes.items)

abbrev slots_of : goal.After-read → List SlotState
slots_of c = slots_in c.self.inside.layout.parts (laid c)

its : (c : goal.After-read) → get_or c.args.self.now c.args.at empty_state ≡ record { rows = get_or c.self.inside.rows.items c.args.at 0; slots = slots_of c }
its c =
    let layout = c.self.inside.layout in
    let rows = c.self.inside.rows.items in
    let lanes = c.self.inside.lanes.items in
    let here = place_within layout rows lanes c.args.self.now c.args.at c.self.view_is c.requires.place in
    ap (λ (states : List AggState). get_or states c.args.at empty_state) (sym c.self.view_is)
    ∙ get_or_from_slice_get (states_in layout rows lanes) c.args.at _ empty_state (get-states_in layout rows lanes c.args.at here)

pub returns-clause-rows : goal.returns-clause-rows
returns-clause-rows c =
    let rows = c.self.inside.rows.items in
    let here = place_within c.self.inside.layout rows c.self.inside.lanes.items c.args.self.now c.args.at c.self.view_is c.requires.place in
    c.index.ensures ∙ sym (get_or_default rows c.args.at 0 c.index.result.now here) ∙ ap (λ (s : AggState). s.rows) (sym (its c))

pub returns-clause-front : goal.returns-clause-front
returns-clause-front c =
    let count = c.args.count in
    let parts = c.self.inside.layout.parts in
    let lanes : c.lanes_at-lanes.result.now ≡ laid c = c.lanes_at-lanes.ensures ∙ (λ i. take (c.width-width.ensures.width i) (drop (c.args.at * c.width-width.ensures.width i) (c.deref.ensures.value i))) in
    c.read.ensures.front ∙ ap (λ (ls : List SlotState). take count (slots_in parts ls)) lanes ∙ ap (λ (s : AggState). take count s.slots) (sym (its c))
