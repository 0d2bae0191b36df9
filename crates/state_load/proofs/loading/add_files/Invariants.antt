use Rattle.state_head.specs.Head.{subject_of}
use Rattle.state_head.specs.Words.{keys_of}
use Rattle.state_load.proofs.Loads.{IsLoadedTo}
use Rattle.state_load.proofs.loading.add_files.Given as goal

abbrev pub invariant-loop-at : goal.invariant-loop-at
invariant-loop-at l = IsLoadedTo l.shape (subject_of l.whole) (keys_of l.range) l.bytes l.rest l.fn.sum l.sum l.at
