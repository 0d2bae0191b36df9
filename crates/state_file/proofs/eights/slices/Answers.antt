use Rattle.std.proofs.Common.{ℕ}
use Rattle.std.proofs.lemmas.List.{length-replicate}
use Rattle.state_file.proofs.Slices.{none_yet, one_more}
use Rattle.state_file.proofs.eights.slices.Goals as goal

pub loop-at-init : goal.loop-at-init
loop-at-init c = none_yet _ (length-replicate {A = ℕ} 2048 0)

pub loop-at-preserved : goal.loop-at-preserved
loop-at-preserved c = one_more c.loop-at.at c.loop-at.slices c.next_entry.result c.loop-at-test.true c.loop-at.invariant c.next_entry.ensures
