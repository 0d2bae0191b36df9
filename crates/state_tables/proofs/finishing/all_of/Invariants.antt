use Rattle.std.proofs.Common.{◌≡◌, ℕ, List}
use Rattle.std.specs.List.{AllZip, concat}
use Rattle.result_text.specs.Pieces.{joined}
use Rattle.state_tables.specs.Jobs.{IsTextJob}
use Rattle.state_tables.proofs.finishing.all_of.Given as goal

-- the pieces so far are the texts so far
abbrev pub invariant-loop-job : goal.invariant-loop-job
invariant-loop-job l = (texts : List (List ℕ)) × AllZip IsTextJob l.yielded texts × (joined l.all.items ≡ concat texts)
