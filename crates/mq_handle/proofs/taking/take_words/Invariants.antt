use Rattle.std.proofs.Common.{◌≡◌, ◌+◌, ◌≤◌, length}
use Rattle.mq_handle.specs.Taking.{Ready, InHand, IsOpen, Takes, before_of}
use Rattle.mq_handle.proofs.taking.take_words.Given as goal

abbrev pub invariant-loop-taken : goal.invariant-loop-taken
invariant-loop-taken l = record {
  kept : l.rx ≡ record l.fn.rx { end = l.rx.end };
  takes : Takes l.fn.rx.end l.rx.end;
  looks : (l.rx.end.looked ≡ l.fn.rx.end.looked) × (l.rx.end.avail ≡ l.fn.rx.end.avail);
  steps : l.rx.end.turn + length l.fn.rx.end.taken ≡ l.fn.rx.end.turn + length l.rx.end.taken;
  words : l.taken.words + length l.fn.rx.end.taken ≡ l.fn.taken.words + length l.rx.end.taken;
  counted : Ready l.rx.end l.taken.ready l.taken.unreturned;
  hand : InHand l.rx.end.ring.max (before_of l.fn.rx.end l.fn.taken.words) l.rx.end.taken l.buffer l.taken.words l.taken.len;
  unfinished : IsOpen l.taken.words l.taken.len;
  further : l.taken.words + l.taken.ready ≡ l.fn.taken.words + l.fn.taken.ready;
  more : l.fn.taken.words ≤ l.taken.words;
}

abbrev pub decreases-loop-taken : goal.decreases-loop-taken
decreases-loop-taken l = l.taken.ready
