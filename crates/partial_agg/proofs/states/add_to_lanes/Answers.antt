use Rattle.std.proofs.Common.{◌≡◌, ◌-◌, ◌∙◌, ℕ, ap, sym, arith, get_or, length, map}
use Rattle.std.proofs.lemmas.List.{get_or-map, length-map}
use Rattle.par_model.specs.Aggregate.{no_values}
use Rattle.partial_agg.specs.Lanes.{lanes_of}
use Rattle.partial_agg.specs.State.{combined_slot}
use Rattle.partial_agg.specs.Values.{slot_of_value, values_state}
use Rattle.partial_agg.proofs.Slots.{begun_all, begun_next, get_or-slots}
use Rattle.partial_agg.proofs.states.add_to_lanes.Goals as goal

pub loop-lane-preserved : goal.loop-lane-preserved
loop-lane-preserved c =
    let kept = c.kept-kept.result.now in
    let lane = c.loop-lane.lane in
    let slots = (values_state c.args.values.now).slots in
    let others : map (λ (at : ℕ). get_or slots at no_values) kept ≡ lanes_of c.args.layout.now slots = ap (map (λ (at : ℕ). get_or slots at no_values)) c.kept-kept.ensures.kept in
    let many : length (lanes_of c.args.layout.now slots) ≡ length kept = ap length (sym others) ∙ length-map kept (λ (at : ℕ). get_or slots at no_values) in
    let value : slot_of_value c.value_at.result ≡ get_or (lanes_of c.args.layout.now slots) lane no_values =
    ap slot_of_value c.value_at.ensures
    ∙ sym (get_or-slots c.args.values.now (8 - length c.args.values.now) (get_or kept lane 0))
    ∙ sym (get_or-map (λ (at : ℕ). get_or slots at no_values) kept lane 0 no_values (omega arith))
    ∙ ap (λ ls. get_or ls lane no_values) others in
    begun_next lane c.args.lanes.now c.loop-lane.lanes (lanes_of c.args.layout.now slots) no_values no_values _ c.loop-lane.invariant (omega (arith, many)) (omega (arith, many))
    (c.add_to_slot.ensures ∙ ap (combined_slot (get_or c.loop-lane.lanes lane no_values)) value)

pub returns : goal.returns
returns c =
    let kept = c.kept-kept.result.now in
    let slots = (values_state c.args.values.now).slots in
    let others : map (λ (at : ℕ). get_or slots at no_values) kept ≡ lanes_of c.args.layout.now slots = ap (map (λ (at : ℕ). get_or slots at no_values)) c.kept-kept.ensures.kept in
    let many : length (lanes_of c.args.layout.now slots) ≡ length kept = ap length (sym others) ∙ length-map kept (λ (at : ℕ). get_or slots at no_values) in
    c.loop-lane.invariant ∙ begun_all c.loop-lane.lane c.args.lanes.now (lanes_of c.args.layout.now slots) (omega arith) (omega (arith, many))
