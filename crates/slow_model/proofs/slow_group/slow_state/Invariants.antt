use Rattle.std.proofs.Common.{◌≡◌, ◌≤◌, length}
use Rattle.slow_model.proofs.FilledSlots.{filled}
use Rattle.par_model.specs.Aggregate.{rows_of, slot_of}
use Rattle.slow_model.proofs.slow_group.slow_state.Given as goal

-- the slots of the items so far, and slots of no values
abbrev pub invariant-items : goal.invariant-items
invariant-items l = record {
  slots : l.slots ≡ filled (slot_of (rows_of l.plan l.rows l.key)) l.plan.items l.at;
  within : l.at ≤ length l.plan.items;
}
