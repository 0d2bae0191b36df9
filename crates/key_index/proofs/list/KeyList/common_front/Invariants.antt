use Rattle.std.proofs.Common.{ℕ, ◌<◌, length}
use Rattle.key_index.specs.Front.{IsFrontOf}
use Rattle.key_index.specs.Keys.{key_at}
use Rattle.key_index.proofs.list.KeyList.common_front.Given as goal

abbrev pub invariant-loop-at : goal.invariant-loop-at
invariant-loop-at l = (k : ℕ) → k < l.at → k < length l.self → IsFrontOf l.front (key_at l.self k)
