use Rattle.std.proofs.Common.{◌≡◌, ◌<◌, ◌+◌, ◌∙◌, ℕ, List, ap, arith, length, length-set, map, set, sym, take}
use Rattle.std.proofs.Math.Seq.{take-length}
use Rattle.par_model.specs.declared.state.SlotState.{SlotState}
use Rattle.state_lanes.specs.Lanes.{first_of, lane_slots}
use Rattle.state_lanes.specs.declared.lanes.Lane.{Lane}
use Rattle.state_lanes.proofs.Loops.{put_more}
use Rattle.state_lanes.proofs.slots.lane_slots.Goals as goal

pub loop-at-preserved : goal.loop-at-preserved
loop-at-preserved c =
    let found = c.loop-at.found in
    let at = c.loop-at.at in
    let eight = c.loop-at.invariant.0 in
    let within : at < length found = omega (arith, eight, c.loop-at-test.true, c.requires.lanes) in (
      length-set found at c.first_of.result ∙ eight,
      ap (λ (s : SlotState). take (at + 1) (set found at s)) c.first_of.ensures ∙ put_more (first_of c.args.items.now c.args.slots.now) c.args.lanes.now found at _ c.loop-at-test.true within c.loop-at.invariant.1,
    )

pub returns : goal.returns
unfolding lane_slots
returns c =
    let lanes = c.args.lanes.now in
    let f = first_of c.args.items.now c.args.slots.now in
    let end : c.loop-at.at ≡ length lanes = omega arith in
    ap (λ (n : ℕ). take n c.loop-at.found) (sym end) ∙ c.loop-at.invariant.1 ∙ ap (λ (n : ℕ). map f (take n lanes)) end ∙ ap (λ (ls : List Lane). map f ls) (take-length lanes)
