use Rattle.std.proofs.Common.{◌≡◌, ◌++◌, ◌≤◌, ◌-◌, length, take}
use Rattle.ring_rule.specs.Frames.{frame}
use Rattle.mq_handle.specs.Held.{Counted}
use Rattle.mq_handle.specs.Filling.{Fills, base_of}
use Rattle.mq_handle.specs.Told.{RoomFound}
use Rattle.mq_handle.proofs.storing.store_words.Given as goal

abbrev pub invariant-loop-counts : goal.invariant-loop-counts
invariant-loop-counts l = record {
  kept : l.tx ≡ record l.fn.tx { end = l.tx.end };
  steps : Fills (length (base_of l.fn.tx.end l.fn.counts.words ++ frame l.message)) l.fn.tx.end l.tx.end;
  counted : Counted l.tx.end l.counts.free l.counts.unpublished;
  stored : l.counts.words ≤ length (frame l.message);
  found : RoomFound l.fn.tx.told l.fn.tx.end l.tx.end;
  put : l.tx.end.put ≡ base_of l.fn.tx.end l.fn.counts.words ++ take l.counts.words (frame l.message);
}

abbrev pub decreases-loop-counts : goal.decreases-loop-counts
decreases-loop-counts l = l.total - l.counts.words
