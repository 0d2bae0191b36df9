use Rattle.std.proofs.Common.{◌≤◌, ◌++◌, []}
use Rattle.std.specs.FinMap as finite
use Rattle.state_head.specs.Head.{subject_of}
use Rattle.state_head.specs.Words.{keys_of}
use Rattle.state_ranges.specs.Sums.{AreRangeSums}
use Rattle.state_source.specs.Beside.{IsSeenOf}
use Rattle.state_source.specs.Reading.{EndsAt}
use Rattle.state_source.proofs.Gone.{IsGone}
use Rattle.state_whole.specs.Files.{StateFile, file_bytes}
use Rattle.state_source.proofs.beside.add_all.Given as goal

abbrev pub invariant-loop-count : goal.invariant-loop-count
invariant-loop-count g l = record {
  to : (f : StateFile) → AreRangeSums l.shape.columns finite.empty [] l.fn.sums → IsSeenOf l.shape (subject_of l.query.whole) (keys_of l.query.range) f l.fn.file
      → IsGone l.shape (subject_of l.query.whole) (keys_of l.query.range) (g.S.Source.left l.fn.source) (g.S.Source.left l.source) (file_bytes l.shape.kinds.now f ++ l.fn.ahead.bytes) l.ahead.bytes l.sums l.file l.count;
  end : EndsAt l.ahead.ended (g.S.Source.left l.source);
  faults : g.S.Source.faults l.fn.source ≤ g.S.Source.faults l.source;
}
