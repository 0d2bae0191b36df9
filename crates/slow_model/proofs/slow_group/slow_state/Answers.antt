use Rattle.std.proofs.Common.{◌≡◌, ◌<◌, ◌≤◌, ◌∙◌, List, ap, arith, length, set}
use Rattle.slow_model.proofs.FilledSlots.{slots_end, slots_next}
use Rattle.par_model.specs.Aggregate.{rows_of, slot_of, state_of_rows}
use Rattle.par_model.specs.PlanLayout.{unused}
use Rattle.par_model.specs.declared.state.SlotState.{SlotState}
use Rattle.slow_model.proofs.slow_group.slow_state.Goals as goal

pub slot-requires-clause-item : goal.slot-requires-clause-item
slot-requires-clause-item c =
    let inside : c.items.at < length c.args.plan.now.items = rw (← c.items-items.ensures.items) c.items-test.true in
    λ reads k d within. rw c.items-items.ensures.items ((c.requires k d within).items c.items.at unused inside (rw (← c.items-items.ensures.items) reads))

pub items-preserved : goal.items-preserved
items-preserved c =
    let slots = slot_of (rows_of c.args.plan.now c.args.rows.now c.args.key.now) in
    let inside : c.items.at < length c.args.plan.now.items = rw (← c.items-items.ensures.items) c.items-test.true in
    record {
      slots = ap (λ (s : List SlotState). set s c.items.at c.slot.result) c.items.invariant.slots
          ∙ slots_next slots c.args.plan.now.items c.items.at unused c.slot.result inside (omega arith) (rw c.items-items.ensures.items at c.slot.ensures);
      within = omega (arith, inside);
    }

pub returns : goal.returns
unfolding state_of_rows
returns c =
    let slots = slot_of (rows_of c.args.plan.now c.args.rows.now c.args.key.now) in
    let past : length c.args.plan.now.items ≤ c.items.at = rw (← c.items-items.ensures.items) c.items-test.false in
    let long : length c.args.plan.now.items ≡ c.items.at = omega (arith, c.items.invariant.within, past) in
    let all = c.items.invariant.slots ∙ slots_end slots c.args.plan.now.items c.items.at long in
    λ i. record { rows = c.count_rows-rows.ensures i; slots = all i }
