use Rattle.std.proofs.Common.{◌≡◌, ◌+◌, ◌*◌, ◌-◌, ◌≤◌, length, suc, MatchBool}
use Rattle.rel_pointer.specs.Bytes.{word_count}
use Rattle.mq_handle.specs.Taking.{Ready, InHand, IsOpen, Takes, before_of}
use Rattle.mq_handle.specs.Told.{WordsFound}
use Rattle.mq_handle.proofs.receiving.receive_frame.Given as goal

abbrev pub invariant-loop-whole : goal.invariant-loop-whole
invariant-loop-whole l = record {
  kept : l.rx ≡ record l.fn.rx { end = l.rx.end };
  takes : Takes l.fn.rx.end l.rx.end;
  steps : l.rx.end.turn + 4 * length l.fn.rx.end.taken ≤ l.fn.rx.end.turn + 4 * length l.rx.end.taken;
  found : WordsFound l.fn.rx.told l.fn.rx.end l.rx.end;
  counted : Ready l.rx.end l.taken.ready l.taken.unreturned;
  hand : InHand l.rx.end.ring.max (before_of l.fn.rx.end l.fn.taken.words) l.rx.end.taken l.buffer l.taken.words l.taken.len;
  whole : MatchBool l.whole (l.taken.words ≡ suc (word_count l.taken.len)) (IsOpen l.taken.words l.taken.len × (l.taken.ready ≡ 0));
}

abbrev pub decreases-loop-whole : goal.decreases-loop-whole
decreases-loop-whole l = suc (word_count l.fn.rx.end.ring.max) - l.taken.words
