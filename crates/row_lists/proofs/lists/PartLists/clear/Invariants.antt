use Rattle.std.proofs.Common.{◌≡◌, [], length, replicate, take}
use Rattle.row_lists.proofs.lists.PartLists.clear.Given as goal

abbrev pub invariant-loop-part : goal.invariant-loop-part
invariant-loop-part l = record { many : length l.self-inside.lists.items ≡ 256; empty : take l.part l.self-inside.lists.items ≡ replicate l.part [] }
