use Rattle.std.proofs.Common.{◌≡◌, ◌∙◌, ◌∷◌, [], ℕ, Bool, List, None, Some, true, false, ap, get_or, length, refl, set, sym}
use Rattle.std.specs.Bool.{OnTrue}
use Rattle.std.specs.List.{position_from}
use Rattle.std.specs.Prelude.{slice_get}
use Rattle.par_model.specs.Plan.{Plan}
use Rattle.par_model.specs.Refuse.{is_unreadable}
use Rattle.partial_agg.specs.Groups.{with_rows}
use Rattle.partial_agg.specs.Items.{items_state}
use Rattle.partial_agg.specs.Lanes.{states_in}
use Rattle.partial_agg.specs.Placed.{IsGrouped, groups_at, places_of}
use Rattle.partial_agg.specs.State.{combined, empty_state}
use Rattle.partial_agg.specs.Status.{IsKeptBy}
use Rattle.par_model.specs.declared.state.AggState.{AggState}
use Rattle.partial_agg.proofs.Blocks.{row_added, with_rows-left_out}
use Rattle.partial_agg.proofs.Grouped.{are_places, place_whole}
use Rattle.partial_agg.proofs.Lanes.{length-states_in}
use Rattle.partial_agg.proofs.Placed.{state_combined}
use Rattle.partial_agg.proofs.run.add_known.Goals as goal

pub returns-in-LeftOut-clause-added : goal.returns-in-LeftOut-clause-added
returns-in-LeftOut-clause-added g c = λ left sorted is. sym (with_rows-left_out c.args.plan.now _ (g.F.RowFields.fields c.args.row.now) c.in-LeftOut.ensures.1)

-- what follows of two facts of an answer that is true
on_true : (b : Bool) (P Q R : Type 0) → OnTrue b P → OnTrue b Q → (P → Q → R) → OnTrue b R
on_true true P Q R p q f = f p q
on_true false P Q R p q f = p

-- the map after the row was added to its group's state
module _ (plan : Plan) (width : ℕ) (row : List (List ℕ)) (keys : List (List ℕ)) (key : List ℕ) (place count : ℕ) (old new : List AggState) where
  pub kept_added : length old ≡ count → IsKeptBy plan width row key → slice_get keys place ≡ Some key → new ≡ set old place (combined (get_or old place empty_state) (items_state row plan.items))
      → position_from (is_unreadable row) 0 plan.items ≡ None
      → (left : List ℕ) (sorted : Bool) → IsGrouped keys count left true sorted
      → groups_at (places_of keys left) new ≡ with_rows plan (groups_at (places_of keys left) old) (row ∷ [])
  kept_added many kept found now readable left sorted is =
      let grouped : IsGrouped keys (length old) left true sorted = rw many is in
      state_combined (groups_at (places_of keys left) old) (places_of keys left) old new key place (items_state row plan.items)
      refl (are_places keys (length old) left true sorted grouped)
      (place_whole keys (length old) left true sorted key place grouped refl found)
      now
      ∙ row_added plan width row key (groups_at (places_of keys left) old) kept readable

pub returns-in-Some-clause-added : goal.returns-in-Some-clause-added
returns-in-Some-clause-added g c =
    let layout = c.args.layout.now in
    let row = g.F.RowFields.fields c.args.row.now in
    let plan = c.args.plan.now in
    let old = states_in layout c.args.counts.now c.args.lanes.now in
    on_true c.add_by_lanes.result _ _ _ c.add_by_lanes.ensures.added c.add_by_lanes.ensures.readable
    (λ added readable. kept_added plan c.args.width row c.args.keys.now c.read_key.new.self.key c.in-Some.place (length c.args.counts.now) old (states_in layout c.add_by_lanes.new.counts c.add_by_lanes.new.lanes)
    (length-states_in layout c.args.counts.now c.args.lanes.now) c.in-Kept.ensures (c.in-Some.ensures.found ∙ ap Some c.bytes-key.ensures.bytes)
    (rw c.items.ensures.items at added) (rw c.items.ensures.items at readable))
