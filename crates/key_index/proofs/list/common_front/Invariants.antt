use Rattle.std.proofs.Common.{◌≡◌, ◌≤◌, take, length}
use Rattle.key_index.proofs.list.common_front.Given as goal

abbrev pub invariant-loop-at : goal.invariant-loop-at
invariant-loop-at l = record { within : l.at ≤ length l.key; same : take l.at l.front ≡ take l.at l.key }
