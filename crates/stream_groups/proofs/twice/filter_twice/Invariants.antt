use Rattle.std.proofs.Common.{◌≡◌, map, take}
use Rattle.std.specs.Prelude.{None}
use Rattle.stream_groups.specs.Twice.{first_some, later_same}
use Rattle.stream_groups.proofs.twice.filter_twice.Given as goal

abbrev pub invariant-loop-at : goal.invariant-loop-at
invariant-loop-at l = first_some (map (λ filter. later_same l.header filter.column) (take l.at l.filters)) ≡ None
