use Rattle.std.proofs.Common.{◌≡◌, ◌<◌, ◌≤◌, All, length, map, take}
use Rattle.result_text.specs.GroupOrder.{group_of}
use Rattle.result_text.proofs.order.as_they_are.Given as goal

abbrev pub invariant-loop-at : goal.invariant-loop-at
invariant-loop-at l = record {
  same : map (group_of l.groups) l.refs.items ≡ take l.at l.groups;
  within : All (λ ref. ref.at < length l.groups) l.refs.items;
  short : All (λ group. length group.key ≤ 248) (take l.at l.groups);
}
