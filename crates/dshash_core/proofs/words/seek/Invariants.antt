use Rattle.std.proofs.Common.{◌≡◌, length}
use Rattle.dshash_core.specs.Chains.{word, most_words, places}
use Rattle.dshash_core.proofs.Walks.{Walked}
use Rattle.dshash_core.proofs.words.seek.Given as goal

abbrev pub invariant-loop-item : goal.invariant-loop-item
invariant-loop-item l = record {
  same : l.part ≡ l.fn.part;
  walked : Walked l.fn.part.words (places (word l.fn.part.words) most_words (word l.fn.part.words l.link)) l.link l.behind l.item (length l.key) l.key;
}

abbrev pub decreases-loop-item : goal.decreases-loop-item
decreases-loop-item l = length (places (word l.fn.part.words) most_words l.item)
