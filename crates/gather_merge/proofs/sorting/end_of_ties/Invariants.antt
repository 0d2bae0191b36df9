use Rattle.std.proofs.Common.{◌≡◌, ◌≤◌, ◌<◌, ℕ}
use Rattle.gather_merge.specs.Levels.{word_of_pair}
use Rattle.gather_merge.proofs.sorting.end_of_ties.Given as goal

abbrev pub invariant-loop-to : goal.invariant-loop-to
invariant-loop-to l = record { same : (k : ℕ) → l.from ≤ k → k < l.to → word_of_pair l.run k ≡ word_of_pair l.run l.from }
