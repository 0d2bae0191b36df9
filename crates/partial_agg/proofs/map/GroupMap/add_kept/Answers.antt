use Rattle.std.proofs.Common.{◌≡◌, ◌∙◌, ◌∷◌, [], None, Some, Result, Ok, Err, ap, arith, get_or, length, reverse, set}
use Rattle.std.specs.Prelude.{OnOk}
use Rattle.std.specs.List.{position_from}
use Rattle.std.proofs.lemmas.Option.{slice_get_within}
use Rattle.par_model.specs.Refuse.{is_unreadable}
use Rattle.partial_agg.specs.Groups.{with_rows}
use Rattle.partial_agg.specs.Items.{items_state}
use Rattle.partial_agg.specs.Placed.{groups_at, places_of}
use Rattle.partial_agg.specs.State.{combined, empty_state}
use Rattle.partial_agg.proofs.Blocks.{row_added}
use Rattle.partial_agg.proofs.Grouped.{are_places, place_whole}
use Rattle.partial_agg.proofs.Placed.{state_combined}
use Rattle.partial_agg.proofs.map.GroupMap.add_kept.Goals as goal

pub add_to_known-requires-clause-place : goal.add_to_known-requires-clause-place
add_to_known-requires-clause-place g c =
    let there = slice_get_within c.self.inside.keys c.in-Some.place c.bytes.result.now c.in-Some.ensures.found in
    let counted = c.self.invariant.counted in
    omega (arith, there, counted)

-- what follows of two facts of an answer that is no error
on_ok : {T E : Type 0} (r : Result T E) (P Q R : Type 0) → OnOk r P → OnOk r Q → (P → Q → R) → OnOk r R
on_ok (Ok x) P Q R p q f = f p q
on_ok (Err e) P Q R p q f = p

pub returns-in-Some-clause-added : goal.returns-in-Some-clause-added
returns-in-Some-clause-added g c =
    let keys = c.self.inside.keys in
    let left = reverse c.self.inside.left.items in
    let states = c.self.inside.states in
    let count = length states in
    let key = c.args.buffer.now.key in
    let row = (g.F.RowFields.fields c.args.row.now) in
    let plan = c.args.plan.now in
    let place = c.in-Some.place in
    let new = c.add_to_known.new.states in
    on_ok c.add_to_known.result (new ≡ set states place (combined (get_or states place empty_state) (items_state row plan.items))) (position_from (is_unreadable row) 0 plan.items ≡ None)
    (groups_at (places_of keys left) new ≡ with_rows plan c.args.self.now (row ∷ [])) c.add_to_known.ensures.added c.add_to_known.ensures.readable
    (λ added readable.
    state_combined c.args.self.now (places_of keys left) states new key place (items_state row plan.items)
    c.self.view_is (are_places keys count left c.self.inside.whole c.self.inside.sorted c.self.invariant)
    (place_whole keys count left c.self.inside.whole c.self.inside.sorted key place c.self.invariant c.if-self.true (c.in-Some.ensures.found ∙ ap Some c.bytes.ensures.bytes))
    added
    ∙ row_added plan c.args.width row key c.args.self.now c.requires.kept readable)
