use Rattle.std.proofs.Common.{◌≡◌, ◌≤◌, ◌+◌, ◌++◌, ℕ, None, get_or, length, map, take, vec_capacity, vec_len}
use Rattle.partial_agg.specs.Values.{slot_of_value}
use Rattle.partial_agg.proofs.states.push_lanes.Given as goal

abbrev pub invariant-loop-at : goal.invariant-loop-at
invariant-loop-at l = record {
  items : l.lanes.items ≡ l.fn.lanes.items ++ map (λ (at : ℕ). slot_of_value (get_or l.values at None)) (take l.at-index l.kept);
  room : vec_len l.lanes + length l.kept ≤ vec_capacity l.lanes + l.at-index;
}
