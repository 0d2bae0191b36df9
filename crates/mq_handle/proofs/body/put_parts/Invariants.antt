use Rattle.std.proofs.Common.{◌≡◌, ◌≤◌, ◌-◌}
use Rattle.std.specs.List.{fold}
use Rattle.ring_rule.specs.Ends.{puts}
use Rattle.mq_ring.specs.Bursts.{words_from}
use Rattle.mq_handle.specs.Parts.{joined}
use Rattle.mq_handle.proofs.body.put_parts.Given as goal

abbrev pub invariant-loop-done : goal.invariant-loop-done
invariant-loop-done l = record {
  low : l.done ≤ l.words;
  put : l.tx ≡ record l.fn.tx { end = fold puts l.fn.tx.end (words_from l.from l.done (joined l.parts)) };
}

abbrev pub decreases-loop-done : goal.decreases-loop-done
decreases-loop-done l = l.words - l.done
