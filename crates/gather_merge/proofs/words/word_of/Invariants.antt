use Rattle.std.proofs.Common.{◌≡◌}
use Rattle.gather_merge.specs.RowWords.{chunk}
use Rattle.gather_merge.proofs.words.word_of.Given as goal

abbrev pub invariant-loop-at : goal.invariant-loop-at
invariant-loop-at l = record { is : l.bytes ≡ chunk l.at l.text }
