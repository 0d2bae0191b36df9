use Rattle.std.proofs.Common.{◌≡◌, All, None, map, min}
use Rattle.std.specs.List.{sum_by}
use Rattle.split_run.specs.Hands.{most}
use Rattle.split_run.specs.declared.hands.Hand.{Hand}
use Rattle.split_run.proofs.pieces.bring_home.Given as goal

abbrev pub invariant-loop-hand : goal.invariant-loop-hand
invariant-loop-hand l = record {
  seats : l.home.seats.items ≡ map (λ (h : Hand). h.claim) l.yielded;
  maps : l.home.maps.items ≡ map (λ (h : Hand). h.groups) l.yielded;
  count : l.home.count ≡ min (sum_by (λ (h : Hand). h.count) l.yielded) most;
  whole : All (λ (h : Hand). h.stopped ≡ None) l.yielded;
}
