use Rattle.std.proofs.Common.{◌≡◌, ◌∙◌, ◌∷◌, [], ℕ, List, ap, arith, length, subst, sym, true}
use Rattle.std.proofs.lemmas.List.{with_items_is}
use Rattle.std.specs.Vec.{with_items}
use Rattle.par_model.specs.declared.state.AggState.{AggState}
use Rattle.partial_agg.specs.Cursor.{AddedSome}
use Rattle.partial_agg.specs.Fitting.{FitsItems}
use Rattle.partial_agg.specs.Lanes.{states_in}
use Rattle.partial_agg.specs.Placed.{IsGrouped, groups_at, places_of}
use Rattle.partial_agg.proofs.Cursor.{rest_refused}
use Rattle.partial_agg.proofs.Lanes.{length-states_in}
use Rattle.partial_agg.proofs.states.StateList.add_next.Goals as goal

pub returns-then-not-is_known-clause-refused : goal.returns-then-not-is_known-clause-refused
returns-then-not-is_known-clause-refused g c = rest_refused c.next_row.result c.args.plan.now c.args.width (g.C.RowCursor.left c.args.cursor.now) c.args.count.now c.next_row.ensures.refused

pub add_next-requires-clause-layout : goal.add_next-requires-clause-layout
add_next-requires-clause-layout g c =
    subst (FitsItems c.self.inside.layout) c.items.ensures.items (c.is_known.ensures c.self.inside.layout c.self.invariant.fits c.if-not-is_known.false)

pub returns-clause-size : goal.returns-clause-size
returns-clause-size g c =
    let layout = c.self.inside.layout in
    let news : states_in layout c.add_next.new.counts c.add_next.new.lanes ≡ states_in layout (with_items c.self.inside.rows c.add_next.new.counts).items (with_items c.self.inside.lanes c.add_next.new.lanes).items =
    (λ i. states_in layout (sym (with_items_is c.self.inside.rows c.add_next.new.counts (omega arith)) i) (sym (with_items_is c.self.inside.lanes c.add_next.new.lanes (omega arith)) i)) in
    let olds : c.args.self.now ≡ states_in layout c.deref_mut.result.now c.deref_mut-2.result.now = sym c.self.view_is ∙ (λ i. states_in layout (sym c.deref_mut.ensures.value i) (sym c.deref_mut-2.ensures.value i)) in
    let many : length c.args.self.now ≡ length c.deref_mut.result.now = ap (length {A = AggState}) olds ∙ length-states_in layout c.deref_mut.result.now c.deref_mut-2.result.now in
    ap (length {A = AggState}) (sym news) ∙ length-states_in layout c.add_next.new.counts c.add_next.new.lanes ∙ c.add_next.ensures.counts ∙ sym many

pub returns-clause-stopped : goal.returns-clause-stopped
returns-clause-stopped g c = λ ok left sorted start all is so_far.
    let plan = c.args.plan.now in
    let width = c.args.width in
    let places = places_of c.args.keys.now left in
    let layout = c.self.inside.layout in
    let news : states_in layout c.add_next.new.counts c.add_next.new.lanes ≡ states_in layout (with_items c.self.inside.rows c.add_next.new.counts).items (with_items c.self.inside.lanes c.add_next.new.lanes).items =
    (λ i. states_in layout (sym (with_items_is c.self.inside.rows c.add_next.new.counts (omega arith)) i) (sym (with_items_is c.self.inside.lanes c.add_next.new.lanes (omega arith)) i)) in
    let olds : c.args.self.now ≡ states_in layout c.deref_mut.result.now c.deref_mut-2.result.now = sym c.self.view_is ∙ (λ i. states_in layout (sym c.deref_mut.ensures.value i) (sym c.deref_mut-2.ensures.value i)) in
    let many : length c.args.self.now ≡ length c.deref_mut.result.now = ap (length {A = AggState}) olds ∙ length-states_in layout c.deref_mut.result.now c.deref_mut-2.result.now in
    subst (λ (states : List AggState). AddedSome plan width all c.add_next.new.count (g.C.RowFields.fields c.add_next.new.cursor ∷ g.C.RowCursor.left c.add_next.new.cursor) start (groups_at places states)) news
    (c.add_next.ensures.stopped ok left sorted start all
    (subst (λ (n : ℕ). IsGrouped c.args.keys.now n left true sorted) many is)
    (subst (λ (states : List AggState). AddedSome plan width all c.args.count.now (g.C.RowCursor.left c.args.cursor.now) start (groups_at places states)) olds so_far))

pub returns-clause-ended : goal.returns-clause-ended
returns-clause-ended g c = λ ok left sorted start all is so_far.
    let plan = c.args.plan.now in
    let width = c.args.width in
    let places = places_of c.args.keys.now left in
    let layout = c.self.inside.layout in
    let news : states_in layout c.add_next.new.counts c.add_next.new.lanes ≡ states_in layout (with_items c.self.inside.rows c.add_next.new.counts).items (with_items c.self.inside.lanes c.add_next.new.lanes).items =
    (λ i. states_in layout (sym (with_items_is c.self.inside.rows c.add_next.new.counts (omega arith)) i) (sym (with_items_is c.self.inside.lanes c.add_next.new.lanes (omega arith)) i)) in
    let olds : c.args.self.now ≡ states_in layout c.deref_mut.result.now c.deref_mut-2.result.now = sym c.self.view_is ∙ (λ i. states_in layout (sym c.deref_mut.ensures.value i) (sym c.deref_mut-2.ensures.value i)) in
    let many : length c.args.self.now ≡ length c.deref_mut.result.now = ap (length {A = AggState}) olds ∙ length-states_in layout c.deref_mut.result.now c.deref_mut-2.result.now in
    subst (λ (states : List AggState). AddedSome plan width all c.add_next.new.count [] start (groups_at places states)) news
    (c.add_next.ensures.ended ok left sorted start all
    (subst (λ (n : ℕ). IsGrouped c.args.keys.now n left true sorted) many is)
    (subst (λ (states : List AggState). AddedSome plan width all c.args.count.now (g.C.RowCursor.left c.args.cursor.now) start (groups_at places states)) olds so_far))
