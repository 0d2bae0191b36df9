use Rattle.std.proofs.Common.{◌≡◌, ◌∙◌, ℕ, List, ap, arith, length, subst, sym, true}
use Rattle.std.proofs.lemmas.List.{with_items_is}
use Rattle.std.specs.Vec.{with_items}
use Rattle.par_model.specs.declared.state.AggState.{AggState}
use Rattle.partial_agg.specs.Blocks.{AddedFirst}
use Rattle.partial_agg.specs.Fitting.{FitsItems}
use Rattle.partial_agg.specs.Lanes.{states_in}
use Rattle.partial_agg.specs.Placed.{IsGrouped, groups_at, places_of}
use Rattle.partial_agg.proofs.Lanes.{length-states_in}
use Rattle.partial_agg.proofs.states.StateList.add_near.Goals as goal

pub add_near-requires-clause-layout : goal.add_near-requires-clause-layout
add_near-requires-clause-layout c =
    subst (FitsItems c.self.inside.layout) c.items.ensures.items (c.is_known.ensures c.self.inside.layout c.self.invariant.fits c.if-not-is_known.false)

pub returns-clause-size : goal.returns-clause-size
returns-clause-size c =
    let layout = c.self.inside.layout in
    let news : states_in layout c.add_near.new.counts c.add_near.new.lanes ≡ states_in layout (with_items c.self.inside.rows c.add_near.new.counts).items (with_items c.self.inside.lanes c.add_near.new.lanes).items =
    (λ i. states_in layout (sym (with_items_is c.self.inside.rows c.add_near.new.counts (omega arith)) i) (sym (with_items_is c.self.inside.lanes c.add_near.new.lanes (omega arith)) i)) in
    let olds : c.args.self.now ≡ states_in layout c.deref_mut.result.now c.deref_mut-2.result.now = sym c.self.view_is ∙ (λ i. states_in layout (sym c.deref_mut.ensures.value i) (sym c.deref_mut-2.ensures.value i)) in
    let many : length c.args.self.now ≡ length c.deref_mut.result.now = ap (length {A = AggState}) olds ∙ length-states_in layout c.deref_mut.result.now c.deref_mut-2.result.now in
    ap (length {A = AggState}) (sym news) ∙ length-states_in layout c.add_near.new.counts c.add_near.new.lanes ∙ c.add_near.ensures.counts ∙ sym many

pub returns-clause-added : goal.returns-clause-added
returns-clause-added c = λ left sorted start is so_far.
    let plan = c.args.plan.now in
    let rows = c.args.rows.now in
    let block = c.args.block in
    let places = places_of c.args.keys.now left in
    let layout = c.self.inside.layout in
    let news : states_in layout c.add_near.new.counts c.add_near.new.lanes ≡ states_in layout (with_items c.self.inside.rows c.add_near.new.counts).items (with_items c.self.inside.lanes c.add_near.new.lanes).items =
    (λ i. states_in layout (sym (with_items_is c.self.inside.rows c.add_near.new.counts (omega arith)) i) (sym (with_items_is c.self.inside.lanes c.add_near.new.lanes (omega arith)) i)) in
    let olds : c.args.self.now ≡ states_in layout c.deref_mut.result.now c.deref_mut-2.result.now = sym c.self.view_is ∙ (λ i. states_in layout (sym c.deref_mut.ensures.value i) (sym c.deref_mut-2.ensures.value i)) in
    let many : length c.args.self.now ≡ length c.deref_mut.result.now = ap (length {A = AggState}) olds ∙ length-states_in layout c.deref_mut.result.now c.deref_mut-2.result.now in
    subst (λ (states : List AggState). AddedFirst plan rows block c.add_near.result start (groups_at places states)) news
    (c.add_near.ensures.added left sorted start
    (subst (λ (n : ℕ). IsGrouped c.args.keys.now n left true sorted) many is)
    (subst (λ (states : List AggState). AddedFirst plan rows block c.args.from start (groups_at places states)) olds so_far))
