use Rattle.std.proofs.Common.{◌≢◌, ℕ, ◌^◌, ◌<◌}
use Rattle.mq_ring.proofs.making.is_ring_size.Given as goal

abbrev pub invariant-loop-e : goal.invariant-loop-e
invariant-loop-e l = (k : ℕ) → k < l.e → l.words ≢ 2 ^ k
