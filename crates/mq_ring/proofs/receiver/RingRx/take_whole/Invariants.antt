use Rattle.std.proofs.Common.{◌≡◌, ◌<◌, ◌≤◌, ◌-◌, ℕ, List, length}
use Rattle.std.specs.List.{fold}
use Rattle.ring_rule.specs.Frames.{IsFramed}
use Rattle.ring_rule.specs.Ends.{takes}
use Rattle.mq_ring.specs.Bursts.{HasWords}
use Rattle.mq_ring.proofs.receiver.RingRx.take_whole.Given as goal

abbrev pub invariant-loop-done : goal.invariant-loop-done
invariant-loop-done l = record {
  low : l.done ≤ l.words;
  taken : (xs : List ℕ) × (length xs ≡ l.done) × (l.self ≡ record l.fn.self { end = fold takes l.fn.self.end xs }) × HasWords l.fn.out l.out l.from xs;
  framed : 0 < l.done → IsFramed l.fn.self.end.ring.max l.self.end.taken;
  len : length l.out ≡ length l.fn.out;
}

abbrev pub decreases-loop-done : goal.decreases-loop-done
decreases-loop-done l = l.words - l.done
