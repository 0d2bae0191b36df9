use Rattle.std.proofs.Common.{◌≡◌}
use Rattle.shm_toc.proofs.Entries.{NotBelow}
use Rattle.shm_toc.proofs.frozen.find.Given as goal

abbrev pub invariant-loop-i : goal.invariant-loop-i
invariant-loop-i l = record {
  same : l.frozen ≡ l.fn.frozen;
  none : NotBelow l.fn.frozen.words 4 l.i l.key;
}
