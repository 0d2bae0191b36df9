use Rattle.std.proofs.Common.{◌≡◌, ◌∙◌, ap, sym, arith, get_or, length, map}
use Rattle.std.proofs.lemmas.List.{get_or-map, length-map}
use Rattle.par_model.specs.Aggregate.{no_values}
use Rattle.partial_agg.specs.State.{combined_slot}
use Rattle.partial_agg.specs.Values.{slot_of_value}
use Rattle.partial_agg.proofs.Slots.{begun_all, begun_next}
use Rattle.partial_agg.proofs.states.add_to_each.Goals as goal

pub loop-lane-preserved : goal.loop-lane-preserved
loop-lane-preserved c =
    let values = c.args.values.now in
    let lane = c.loop-lane.lane in
    let many : length (map slot_of_value values) ≡ length values = length-map values slot_of_value in
    let value : slot_of_value (get_or values lane _) ≡ get_or (map slot_of_value values) lane no_values = sym (get_or-map slot_of_value values lane _ no_values (omega arith)) in
    begun_next lane c.args.lanes.now c.loop-lane.lanes (map slot_of_value values) no_values no_values _ c.loop-lane.invariant (omega (arith, many)) (omega (arith, many))
    (c.add_to_slot.ensures ∙ ap (combined_slot (get_or c.loop-lane.lanes lane no_values)) value)

pub returns : goal.returns
returns c =
    let values = c.args.values.now in
    c.loop-lane.invariant ∙ begun_all c.loop-lane.lane c.args.lanes.now (map slot_of_value values) (omega arith) (omega (arith, length-map values slot_of_value))
