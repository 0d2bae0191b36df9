use Rattle.std.proofs.Common.{◌≡◌}
use Rattle.std.specs.List.{fold}
use Rattle.ring_rule.specs.Ends.{puts}
use Rattle.mq_ring.specs.Bursts.{words_from}
use Rattle.mq_ring.proofs.sender.RingTx.put_words.Given as goal

abbrev pub invariant-loop-k : goal.invariant-loop-k
invariant-loop-k l = l.self ≡ record l.fn.self { end = fold puts l.fn.self.end (words_from l.from l.k l.bytes) }
