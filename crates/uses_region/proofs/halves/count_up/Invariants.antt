use Rattle.std.proofs.Common.{◌≡◌, ℕ, ◌+◌, ◌<◌, ◌≤◌, IsSome, true}
use Rattle.word_map.specs.WordMap.{at as word_at}
use Rattle.uses_region.proofs.halves.count_up.Given as goal

abbrev pub invariant-loop-i : goal.invariant-loop-i
invariant-loop-i l = record {
  here : l.part.region ≡ l.r;
  owns : (k : ℕ) → l.from ≤ k → k < l.from + 32 → IsSome (word_at l.part.words k);
  read_back : l.all ≡ true;
}
