use Rattle.std.proofs.Common.{◌≡◌, ℕ, ◌+◌, ◌<◌, IsSome}
use Rattle.word_map.specs.WordMap.{at}
use Rattle.free_pages.specs.Runs.{run_word}
use Rattle.free_pages.proofs.pages.blank.Given as goal

abbrev pub invariant-loop-p : goal.invariant-loop-p
invariant-loop-p l = record {
  here : l.runs.region ≡ l.fn.runs.region;
  owns : (p : ℕ) → p < l.pages → IsSome (at l.runs.words (l.heads + p));
  zeros : (k : ℕ) → k < l.p → run_word l.runs.words l.heads k ≡ 0;
}
