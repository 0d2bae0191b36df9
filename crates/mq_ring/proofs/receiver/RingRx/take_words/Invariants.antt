use Rattle.std.proofs.Common.{◌≡◌, ◌<◌, ℕ, List, length}
use Rattle.std.specs.List.{fold}
use Rattle.ring_rule.specs.Frames.{IsFramed}
use Rattle.ring_rule.specs.Ends.{takes}
use Rattle.mq_ring.specs.Bursts.{HasWords}
use Rattle.mq_ring.proofs.receiver.RingRx.take_words.Given as goal

abbrev pub invariant-loop-k : goal.invariant-loop-k
invariant-loop-k l = record {
  taken : (xs : List ℕ) × (length xs ≡ l.k) × (l.self ≡ record l.fn.self { end = fold takes l.fn.self.end xs }) × HasWords l.fn.out l.out l.from xs;
  framed : 0 < l.k → IsFramed l.fn.self.end.ring.max l.self.end.taken;
  len : length l.out ≡ length l.fn.out;
}
