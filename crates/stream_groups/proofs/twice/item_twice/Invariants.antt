use Rattle.std.proofs.Common.{◌≡◌, map, take}
use Rattle.std.specs.Prelude.{None}
use Rattle.stream_groups.specs.Twice.{first_some, item_same}
use Rattle.stream_groups.proofs.twice.item_twice.Given as goal

abbrev pub invariant-loop-at : goal.invariant-loop-at
invariant-loop-at l = first_some (map (λ item. item_same l.header item) (take l.at l.items)) ≡ None
