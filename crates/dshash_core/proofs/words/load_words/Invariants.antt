use Rattle.std.proofs.Common.{◌≡◌, ◌+◌, ◌<◌, ℕ, get_or}
use Rattle.dshash_core.specs.Chains.{word}
use Rattle.dshash_core.proofs.words.load_words.Given as goal

abbrev pub invariant-loop-i : goal.invariant-loop-i
invariant-loop-i l = record {
  same : l.part ≡ l.initial.part;
  read : (k : ℕ) → k < l.i → get_or l.out k 0 ≡ word l.initial.part.words (l.at + k);
}
