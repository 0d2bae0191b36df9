use Rattle.std.proofs.Common.{◌<◌, ℕ}
use Rattle.key_index.specs.Index.{Misses}
use Rattle.key_index.proofs.table.KeyTable.find_hashed.Given as goal

abbrev pub invariant-loop-step : goal.invariant-loop-step
invariant-loop-step l = (s : ℕ) → s < l.step → Misses l.self-inside.slots.items l.self-inside.keys l.key s
