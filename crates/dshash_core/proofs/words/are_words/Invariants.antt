use Rattle.std.proofs.Common.{◌≡◌, ◌+◌, ◌<◌, ℕ, get_or}
use Rattle.dshash_core.specs.Chains.{word}
use Rattle.dshash_core.proofs.words.are_words.Given as goal

abbrev pub invariant-loop-i : goal.invariant-loop-i
invariant-loop-i l = record {
  same : l.part ≡ l.initial.part;
  equal : (k : ℕ) → k < l.i → word l.initial.part.words (l.at + k) ≡ get_or l.words k 0;
}
