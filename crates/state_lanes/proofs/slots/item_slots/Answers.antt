use Rattle.std.proofs.Common.{◌≡◌, ◌<◌, ◌+◌, ◌-◌, ◌++◌, ◌∙◌, ℕ, List, ap, arith, drop, length, length-set, map, replicate, set, sym, take}
use Rattle.std.proofs.Math.Seq.{take-length}
use Rattle.std.proofs.lemmas.List.{take-append-drop}
use Rattle.par_model.specs.Aggregate.{no_values}
use Rattle.par_model.specs.declared.plan.Item.{Item}
use Rattle.par_model.specs.declared.state.SlotState.{SlotState}
use Rattle.state_lanes.specs.Lanes.{item_slots, slot_in}
use Rattle.state_lanes.proofs.Loops.{left_more, put_more}
use Rattle.state_lanes.proofs.slots.item_slots.Goals as goal

pub loop-at-preserved : goal.loop-at-preserved
loop-at-preserved c =
    let found = c.loop-at.found in
    let at = c.loop-at.at in
    let eight = c.loop-at.invariant.0 in
    let below : at < 8 = omega (arith, c.loop-at-test.true, c.requires.items) in
    let within : at < length found = omega (arith, eight, below) in (
      length-set found at c.slot_in.result ∙ eight,
      ap (λ (s : SlotState). take (at + 1) (set found at s)) c.slot_in.ensures ∙ put_more (slot_in c.args.lanes.now c.args.slots.now) c.args.items.now found at _ c.loop-at-test.true within c.loop-at.invariant.1,
      left_more found at c.slot_in.result below within c.loop-at.invariant.2,
    )

pub returns : goal.returns
unfolding item_slots
returns c =
    let items = c.args.items.now in
    let found = c.loop-at.found in
    let f = slot_in c.args.lanes.now c.args.slots.now in
    let end : c.loop-at.at ≡ length items = omega arith in
    sym (take-append-drop c.loop-at.at found) ∙ ap (λ (ss : List SlotState). ss ++ drop c.loop-at.at found) (c.loop-at.invariant.1 ∙ ap (λ (n : ℕ). map f (take n items)) end ∙ ap (λ (is : List Item). map f is) (take-length items))
    ∙ ap (λ (ss : List SlotState). map f items ++ ss) (c.loop-at.invariant.2 ∙ ap (λ (n : ℕ). replicate (8 - n) no_values) end)
