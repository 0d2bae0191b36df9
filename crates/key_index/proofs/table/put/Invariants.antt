use Rattle.std.proofs.Common.{◌≡◌, ◌<◌, ℕ}
use Rattle.key_index.specs.Index.{slot_at}
use Rattle.key_index.proofs.table.put.Given as goal

abbrev pub invariant-loop-step : goal.invariant-loop-step
invariant-loop-step l = (l.slots.items ≡ l.fn.slots.items) × ((s : ℕ) → s < l.step → 0 < (slot_at l.slots.items l.hash s).next)
