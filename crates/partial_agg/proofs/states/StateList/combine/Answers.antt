use Rattle.std.proofs.Common.{◌≡◌, ◌+◌, ◌*◌, ◌%◌, ◌^◌, ◌∙◌, ℕ, List, ap, sym, arith, drop, get_or, length, set, take}
use Rattle.std.proofs.lemmas.List.{get_or_default, with_items_is}
use Rattle.std.specs.Vec.{with_items}
use Rattle.par_model.specs.declared.state.AggState.{AggState}
use Rattle.par_model.specs.declared.state.SlotState.{SlotState}
use Rattle.partial_agg.specs.Lanes.{states_in, with_lanes}
use Rattle.partial_agg.specs.State.{combined, combined_slots, empty_state}
use Rattle.partial_agg.proofs.Lanes.{are_first, combine-states_in, refitted}
use Rattle.partial_agg.proofs.states.StateList.combine.Goals as goal

pub overflow_mul-at : goal.overflow_mul-at
overflow_mul-at c =
    let fit = refitted c.self.inside.layout c.make_fit.new.layout c.self.inside.rows.items c.deref.result.now c.self.inside.lanes.items c.make_fit.new.lanes.items c.args.self.now c.args.at c.width-width.result c.deref.ensures.value c.make_fit.ensures.same c.self.view_is c.make_fit.ensures.whole c.requires c.width-width.ensures.width in
    omega (arith, fit.there)

pub combine_lanes-requires : goal.combine_lanes-requires
combine_lanes-requires c =
    let fit = refitted c.self.inside.layout c.make_fit.new.layout c.self.inside.rows.items c.deref.result.now c.self.inside.lanes.items c.make_fit.new.lanes.items c.args.self.now c.args.at c.width-width.result c.deref.ensures.value c.make_fit.ensures.same c.self.view_is c.make_fit.ensures.whole c.requires c.width-width.ensures.width in
    let first_are = are_first c.make_fit.new.layout c.args.state.now.slots c.lanes-lanes.result c.width-width.result c.width-width.ensures.width c.lanes-lanes.ensures.lanes c.lanes-lanes.ensures.width in
    omega (arith, fit.there, first_are.long, c.width-width.ensures.width, ap (length {A = SlotState}) c.deref_mut.ensures.value)

pub index-requires : goal.index-requires
index-requires c =
    let fit = refitted c.self.inside.layout c.make_fit.new.layout c.self.inside.rows.items c.deref.result.now c.self.inside.lanes.items c.make_fit.new.lanes.items c.args.self.now c.args.at c.width-width.result c.deref.ensures.value c.make_fit.ensures.same c.self.view_is c.make_fit.ensures.whole c.requires c.width-width.ensures.width in
    omega (arith, fit.here)

pub index_mut-requires : goal.index_mut-requires
index_mut-requires c =
    let fit = refitted c.self.inside.layout c.make_fit.new.layout c.self.inside.rows.items c.deref.result.now c.self.inside.lanes.items c.make_fit.new.lanes.items c.args.self.now c.args.at c.width-width.result c.deref.ensures.value c.make_fit.ensures.same c.self.view_is c.make_fit.ensures.whole c.requires c.width-width.ensures.width in
    omega (arith, fit.here)

pub returns-clause-ok : goal.returns-clause-ok
returns-clause-ok c =
    let layout = c.make_fit.new.layout in
    let rows = c.self.inside.rows.items in
    let lanes = c.make_fit.new.lanes.items in
    let fit = refitted c.self.inside.layout layout rows c.deref.result.now c.self.inside.lanes.items lanes c.args.self.now c.args.at c.width-width.result c.deref.ensures.value c.make_fit.ensures.same c.self.view_is c.make_fit.ensures.whole c.requires c.width-width.ensures.width in
    let theirs = take c.width-width.result c.lanes-lanes.result in
    let first_are = are_first layout c.args.state.now.slots c.lanes-lanes.result c.width-width.result c.width-width.ensures.width c.lanes-lanes.ensures.lanes c.lanes-lanes.ensures.width in
    let r = (c.index.result.now + c.args.state.now.rows) % 2 ^ 64 in
    let sum : r ≡ (get_or rows c.args.at 0 + c.args.state.now.rows) % 2 ^ 64 = ap (λ (n : ℕ). (n + c.args.state.now.rows) % 2 ^ 64) (c.index.ensures ∙ sym (get_or_default rows c.args.at 0 c.index.result.now fit.here)) in
    let wrote : (with_items c.make_fit.new.lanes c.combine_lanes.new.lanes).items ≡ with_lanes lanes (c.args.at * c.width-width.result) (combined_slots (take (length theirs) (drop (c.args.at * c.width-width.result) lanes)) theirs) =
    with_items_is c.make_fit.new.lanes c.combine_lanes.new.lanes (omega arith) ∙ c.combine_lanes.ensures ∙ ap (λ (ls : List SlotState). with_lanes ls (c.args.at * c.width-width.result) (combined_slots (take (length theirs) (drop (c.args.at * c.width-width.result) ls)) theirs)) c.deref_mut.ensures.value in
    ap (states_in layout (set rows c.args.at r)) wrote
    ∙ combine-states_in layout rows lanes theirs r c.args.at (c.args.at * c.width-width.result) (length theirs) c.args.state.now fit.start first_are.long first_are.are sum c.in_ok-make_fit.ensures.fits first_are.long fit.here fit.whole
    ∙ ap (λ (states : List AggState). set states c.args.at (combined (get_or states c.args.at empty_state) c.args.state.now)) fit.view
