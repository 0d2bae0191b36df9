use Rattle.std.proofs.Common.{◌≡◌, map, slice_index, take}
use Rattle.c_records.proofs.looking.write_keys.Given as goal

abbrev pub invariant-loop-at : goal.invariant-loop-at
invariant-loop-at l = take l.at l.keys ≡ map (λ e. slice_index e.key 0) (take l.at l.entries)
