use Rattle.std.proofs.Common.{◌≡◌, ◌++◌, map, reverse}
use Rattle.part_run.specs.declared.hands.Hand.{Hand}
use Rattle.part_run.proofs.hands.hands_of.Given as goal

-- the lists of the participants so far, and those that are left
abbrev pub invariant-loop-claim : goal.invariant-loop-claim
invariant-loop-claim l = record {
  seats : map (λ (h : Hand). h.claim) l.hands.items ≡ l.yielded;
  lists : map (λ (h : Hand). h.lists) l.hands.items ++ reverse l.lists.items ≡ l.fn.lists.items;
}
