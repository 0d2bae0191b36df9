use Rattle.std.proofs.Common.{◌≡◌, ◌-◌}
use Rattle.free_pages.specs.Runs.{IsFilled}
use Rattle.free_pages.proofs.walk.skip.Given as goal

abbrev pub invariant-loop-at : goal.invariant-loop-at
invariant-loop-at l = record {
  same : l.runs ≡ l.fn.runs;
  filled : IsFilled l.fn.runs.words l.heads l.pages l.at;
}

abbrev pub decreases-loop-at : goal.decreases-loop-at
decreases-loop-at l = l.pages - l.at
