use Rattle.std.proofs.Common.{◌≡◌}
use Rattle.shm_toc.proofs.Entries.{NotBelow}
use Rattle.shm_toc.proofs.growing.find.Given as goal

abbrev pub invariant-loop-i : goal.invariant-loop-i
invariant-loop-i l = record {
  same : l.part ≡ l.fn.part;
  none : NotBelow l.fn.part.words 4 l.i l.key;
}
