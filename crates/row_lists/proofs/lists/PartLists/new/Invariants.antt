use Rattle.std.proofs.Common.{◌≡◌, [], replicate}
use Rattle.row_lists.proofs.lists.PartLists.new.Given as goal

abbrev pub invariant-loop-part : goal.invariant-loop-part
invariant-loop-part l = l.lists.items ≡ replicate l._part []
