use Rattle.std.proofs.Common.{◌≡◌, ◌+◌, ◌<◌, ◌≤◌, ℕ, is_some}
use Rattle.word_map.specs.WordMap.{at}
use Rattle.dshash_core.specs.Chains.{word}
use Rattle.dshash_core.proofs.words.blank.Given as goal

abbrev pub invariant-loop-i : goal.invariant-loop-i
invariant-loop-i l = record {
  region : l.part.region ≡ l.fn.part.region;
  zeros : (k : ℕ) → l.from ≤ k → k < l.from + l.i → word l.part.words k ≡ 0;
  keys : (k : ℕ) → is_some (at l.part.words k) ≡ is_some (at l.fn.part.words k);
}
