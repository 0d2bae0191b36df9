use Rattle.std.proofs.Common.{◌≡◌, length}
use Rattle.line_runs.proofs.texts.no_texts.Given as goal

abbrev pub invariant-loop-range : goal.invariant-loop-range
invariant-loop-range l = length l.texts.items ≡ l._range
