use Rattle.std.proofs.Common.{◌≡◌, ◌*◌, ◌∙◌, List, ap, arith, length, set, take}
use Rattle.std.proofs.lemmas.List.{with_items_is}
use Rattle.std.specs.Vec.{with_items}
use Rattle.par_model.specs.declared.state.SlotState.{SlotState}
use Rattle.partial_agg.specs.Lanes.{slots_in, states_in, with_lanes}
use Rattle.partial_agg.proofs.Lanes.{are_first, refitted, with-states_in}
use Rattle.partial_agg.proofs.states.StateList.put.Goals as goal

pub overflow_mul-at : goal.overflow_mul-at
overflow_mul-at c =
    let fit = refitted c.self.inside.layout c.make_fit.new.layout c.self.inside.rows.items c.deref.result.now c.self.inside.lanes.items c.make_fit.new.lanes.items c.args.self.now c.args.at c.width-width.result c.deref.ensures.value c.make_fit.ensures.same c.self.view_is c.make_fit.ensures.whole c.requires c.width-width.ensures.width in
    omega (arith, fit.there)

pub put_lanes-requires : goal.put_lanes-requires
put_lanes-requires c =
    let fit = refitted c.self.inside.layout c.make_fit.new.layout c.self.inside.rows.items c.deref.result.now c.self.inside.lanes.items c.make_fit.new.lanes.items c.args.self.now c.args.at c.width-width.result c.deref.ensures.value c.make_fit.ensures.same c.self.view_is c.make_fit.ensures.whole c.requires c.width-width.ensures.width in
    let first_are = are_first c.make_fit.new.layout c.args.state.now.slots c.lanes-lanes.result c.width-width.result c.width-width.ensures.width c.lanes-lanes.ensures.lanes c.lanes-lanes.ensures.width in
    omega (arith, fit.there, first_are.long, c.width-width.ensures.width, ap (length {A = SlotState}) c.deref_mut.ensures.value)

pub index_mut-requires : goal.index_mut-requires
index_mut-requires c =
    let fit = refitted c.self.inside.layout c.make_fit.new.layout c.self.inside.rows.items c.deref.result.now c.self.inside.lanes.items c.make_fit.new.lanes.items c.args.self.now c.args.at c.width-width.result c.deref.ensures.value c.make_fit.ensures.same c.self.view_is c.make_fit.ensures.whole c.requires c.width-width.ensures.width in
    omega (arith, fit.here)

pub returns-clause-ok : goal.returns-clause-ok
returns-clause-ok c =
    let layout = c.make_fit.new.layout in
    let rows = c.self.inside.rows.items in
    let lanes = c.make_fit.new.lanes.items in
    let fit = refitted c.self.inside.layout layout rows c.deref.result.now c.self.inside.lanes.items lanes c.args.self.now c.args.at c.width-width.result c.deref.ensures.value c.make_fit.ensures.same c.self.view_is c.make_fit.ensures.whole c.requires c.width-width.ensures.width in
    let theirs = take c.width-width.result c.lanes-lanes.result in
    let first_are = are_first layout c.args.state.now.slots c.lanes-lanes.result c.width-width.result c.width-width.ensures.width c.lanes-lanes.ensures.lanes c.lanes-lanes.ensures.width in
    let wrote : (with_items c.make_fit.new.lanes c.put_lanes.new.lanes).items ≡ with_lanes lanes (c.args.at * c.width-width.result) theirs = with_items_is c.make_fit.new.lanes c.put_lanes.new.lanes (omega arith) ∙ c.put_lanes.ensures ∙ ap (λ (ls : List SlotState). with_lanes ls (c.args.at * c.width-width.result) theirs) c.deref_mut.ensures.value in
    let told : slots_in layout.parts theirs ≡ c.args.state.now.slots = ap (slots_in layout.parts) first_are.are ∙ c.in_ok-make_fit.ensures.fits in
    ap (states_in layout (set rows c.args.at c.args.state.now.rows)) wrote
    ∙ with-states_in layout rows lanes theirs c.args.state.now.rows c.args.at (c.args.at * c.width-width.result) fit.start first_are.long fit.here fit.whole
    ∙ (λ i. set (fit.view i) c.args.at (record { rows = c.args.state.now.rows; slots = told i }))
