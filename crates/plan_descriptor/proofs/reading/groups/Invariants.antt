use Rattle.std.proofs.Common.{◌≡◌, ◌<◌, ◌+◌, ℕ, length, slice_index}
use Rattle.plan_descriptor.proofs.reading.groups.Given as goal

abbrev pub invariant-groups : goal.invariant-groups
invariant-groups l = record {
  size : length l.groups ≡ 8;
  each : (k : ℕ) → k < l.at → slice_index l.groups k ≡ slice_index l.words (4 + k);
}
