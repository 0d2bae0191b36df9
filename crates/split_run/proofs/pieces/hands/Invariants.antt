use Rattle.std.proofs.Common.{◌≡◌, ◌++◌, map, reverse}
use Rattle.split_run.specs.declared.hands.Hand.{Hand}
use Rattle.split_run.proofs.pieces.hands.Given as goal

-- the maps of the participants so far, and those that are left
abbrev pub invariant-loop-claim : goal.invariant-loop-claim
invariant-loop-claim l = record {
  seats : map (λ (h : Hand). h.claim) l.hands.items ≡ l.yielded;
  maps : map (λ (h : Hand). h.groups) l.hands.items ++ reverse l.maps.items ≡ l.fn.maps.items;
}
