use Rattle.std.proofs.Common.{◌≡◌, ◌≤◌, length}
use Rattle.answer_text.specs.Words.{texts}
use Rattle.input_hints.specs.Wrong.{given_places, most_begun, understood}
use Rattle.input_hints.proofs.wrong.count_understood.Given as goal

-- no more words than these are understood
abbrev pub invariant-counts : goal.invariant-counts
invariant-counts l = record {
  same : most_begun (given_places (texts l.words)) l.count (texts l.words) ≡ understood (texts l.words);
  within : l.count ≤ length l.words;
}

abbrev pub decreases-counts : goal.decreases-counts
decreases-counts l = l.count
