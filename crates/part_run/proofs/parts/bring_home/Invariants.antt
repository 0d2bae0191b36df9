use Rattle.std.proofs.Common.{◌≡◌, All, None, map, min}
use Rattle.std.specs.List.{sum_by}
use Rattle.split_run.specs.Hands.{most}
use Rattle.part_run.specs.declared.hands.Hand.{Hand}
use Rattle.part_run.proofs.parts.bring_home.Given as goal

abbrev pub invariant-loop-hand : goal.invariant-loop-hand
invariant-loop-hand l = record {
  seats : l.home.seats.items ≡ map (λ (h : Hand). h.claim) l.yielded;
  lists : l.home.lists.items ≡ map (λ (h : Hand). h.lists) l.yielded;
  count : l.home.count ≡ min (sum_by (λ (h : Hand). h.count) l.yielded) most;
  whole : All (λ (h : Hand). h.stopped ≡ None) l.yielded;
}
