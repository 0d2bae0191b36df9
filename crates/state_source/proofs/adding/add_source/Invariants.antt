use Rattle.std.proofs.Common.{◌≡◌, ◌≤◌}
use Rattle.state_head.specs.Head.{subject_of}
use Rattle.state_head.specs.Words.{keys_of}
use Rattle.state_source.specs.Reading.{EndsAt}
use Rattle.state_source.proofs.Adds.{IsReadTo}
use Rattle.state_source.proofs.adding.add_source.Given as goal

abbrev pub invariant-loop-count : goal.invariant-loop-count
invariant-loop-count g l = record {
  to : IsReadTo l.shape (subject_of l.whole) (keys_of l.range) (g.S.Source.left l.fn.source) (g.S.Source.left l.source) l.first.bytes.items l.ahead.bytes l.fn.sum l.sum l.count;
  kept : l.sum.kept ≡ l.fn.sum.kept;
  end : EndsAt l.ahead.ended (g.S.Source.left l.source);
  faults : g.S.Source.faults l.fn.source ≤ g.S.Source.faults l.source;
}
