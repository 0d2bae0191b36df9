use Rattle.std.proofs.Common.{◌≡◌, ◌+◌, ◌*◌, ◌%◌, ◌^◌, ◌∙◌, ℕ, List, refl, ap, sym, arith, drop, get_or, length, set, take}
use Rattle.std.proofs.lemmas.List.{get_or_default, with_items_is}
use Rattle.std.specs.Vec.{with_items}
use Rattle.par_model.specs.declared.state.AggState.{AggState}
use Rattle.par_model.specs.declared.state.SlotState.{SlotState}
use Rattle.partial_agg.specs.Lanes.{lanes_of, states_in, with_lanes}
use Rattle.partial_agg.specs.State.{combined, combined_slots, empty_state}
use Rattle.partial_agg.specs.Values.{values_state}
use Rattle.partial_agg.proofs.Lanes.{combine-states_in, lanes_within, length-lanes_of, place_within}
use Rattle.partial_agg.proofs.states.StateList.add_values.Goals as goal

pub overflow_mul-first : goal.overflow_mul-first
overflow_mul-first c =
    let layout = c.self.inside.layout in
    let rows = c.self.inside.rows.items in
    let lanes = c.self.inside.lanes.items in
    let here = place_within layout rows lanes c.args.self.now c.args.at c.self.view_is c.requires.place in
    let there = lanes_within layout rows lanes c.args.at c.width.result c.width.ensures.width here c.self.invariant.whole in
    omega (arith, there)

pub add_values-requires : goal.add_values-requires
add_values-requires c =
    let layout = c.self.inside.layout in
    let rows = c.self.inside.rows.items in
    let lanes = c.self.inside.lanes.items in
    let here = place_within layout rows lanes c.args.self.now c.args.at c.self.view_is c.requires.place in
    let there = lanes_within layout rows lanes c.args.at c.width.result c.width.ensures.width here c.self.invariant.whole in
    omega (arith, there, c.width.ensures.width, ap (length {A = SlotState}) c.deref_mut.ensures.value)

pub index-requires : goal.index-requires
index-requires c =
    let layout = c.self.inside.layout in
    let rows = c.self.inside.rows.items in
    let lanes = c.self.inside.lanes.items in
    let here = place_within layout rows lanes c.args.self.now c.args.at c.self.view_is c.requires.place in
    omega (arith, here)

pub index_mut-requires : goal.index_mut-requires
index_mut-requires c =
    let layout = c.self.inside.layout in
    let rows = c.self.inside.rows.items in
    let lanes = c.self.inside.lanes.items in
    let here = place_within layout rows lanes c.args.self.now c.args.at c.self.view_is c.requires.place in
    omega (arith, here)

pub returns-clause-ok : goal.returns-clause-ok
returns-clause-ok c =
    let layout = c.self.inside.layout in
    let rows = c.self.inside.rows.items in
    let lanes = c.self.inside.lanes.items in
    let here = place_within layout rows lanes c.args.self.now c.args.at c.self.view_is c.requires.place in
    let state = values_state c.args.values.now in
    let theirs = lanes_of layout state.slots in
    let long : length theirs ≡ layout.width = length-lanes_of layout state.slots (omega arith) (omega arith) in
    let first : c.args.at * c.width.result ≡ c.args.at * layout.width = ap (λ (n : ℕ). c.args.at * n) c.width.ensures.width in
    let r = (c.index.result.now + 1) % 2 ^ 64 in
    let sum : r ≡ (get_or rows c.args.at 0 + 1) % 2 ^ 64 = ap (λ (n : ℕ). (n + 1) % 2 ^ 64) (c.index.ensures ∙ sym (get_or_default rows c.args.at 0 c.index.result.now here)) in
    let wrote : (with_items c.self.inside.lanes c.add_values.new.lanes).items ≡ with_lanes lanes (c.args.at * c.width.result) (combined_slots (take layout.width (drop (c.args.at * c.width.result) lanes)) theirs) =
    with_items_is c.self.inside.lanes c.add_values.new.lanes (omega arith) ∙ c.add_values.ensures ∙ ap (λ (ls : List SlotState). with_lanes ls (c.args.at * c.width.result) (combined_slots (take layout.width (drop (c.args.at * c.width.result) ls)) theirs)) c.deref_mut.ensures.value in
    ap (states_in layout (set rows c.args.at r)) wrote
    ∙ combine-states_in layout rows lanes theirs r c.args.at (c.args.at * c.width.result) layout.width state first refl refl sum (c.fits_values.ensures c.if-not-fits_values.false) long here c.self.invariant.whole
    ∙ ap (λ (states : List AggState). set states c.args.at (combined (get_or states c.args.at empty_state) state)) c.self.view_is
