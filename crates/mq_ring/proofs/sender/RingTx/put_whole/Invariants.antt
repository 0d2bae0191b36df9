use Rattle.std.proofs.Common.{◌≡◌, ◌≤◌, ◌-◌}
use Rattle.std.specs.List.{fold}
use Rattle.ring_rule.specs.Ends.{puts}
use Rattle.mq_ring.specs.Bursts.{words_from}
use Rattle.mq_ring.proofs.sender.RingTx.put_whole.Given as goal

abbrev pub invariant-loop-done : goal.invariant-loop-done
invariant-loop-done l = record {
  low : l.done ≤ l.words;
  put : l.self ≡ record l.fn.self { end = fold puts l.fn.self.end (words_from l.from l.done l.bytes) };
}

abbrev pub decreases-loop-done : goal.decreases-loop-done
decreases-loop-done l = l.words - l.done
