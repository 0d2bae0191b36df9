use Rattle.std.proofs.Common.{◌≡◌, ℕ, ◌<◌, ◌≤◌, []}
use Rattle.dshash_core.specs.Hung.{chain_of}
use Rattle.dshash_core.proofs.taking.next_spot.Given as goal

-- the buckets so far are empty
abbrev pub invariant-loop-bucket : goal.invariant-loop-bucket
invariant-loop-bucket l = record {
  same : l.buckets ≡ l.fn.buckets;
  empty : (i : ℕ) → l.fn.from ≤ i → i < l.bucket → chain_of l.fn.buckets i ≡ [];
}
