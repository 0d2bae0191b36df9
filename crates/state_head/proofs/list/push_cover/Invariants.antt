use Rattle.std.proofs.Common.{◌≡◌, ◌++◌, length, take}
use Rattle.std.specs.List.{flat_map}
use Rattle.state_file.specs.Number.{number_bytes}
use Rattle.state_head.specs.Cover.{stretch_bytes}
use Rattle.state_head.proofs.list.push_cover.Given as goal

abbrev pub invariant-loop-at : goal.invariant-loop-at
invariant-loop-at l = l.out.items ≡ (l.fn.out.items ++ number_bytes (length l.cover)) ++ flat_map stretch_bytes (take l.at l.cover)
