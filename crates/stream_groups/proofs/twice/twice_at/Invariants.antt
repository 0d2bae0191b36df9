use Rattle.std.proofs.Common.{◌≡◌, ◌+◌, [], drop, get_or}
use Rattle.std.specs.List.{position_from}
use Rattle.std.specs.Prelude.{bytes_eq}
use Rattle.stream_groups.proofs.twice.twice_at.Given as goal

-- no field so far has the column's bytes
abbrev pub invariant-loop-at : goal.invariant-loop-at
invariant-loop-at l = position_from (bytes_eq (get_or l.header l.column [])) (l.column + 1) (drop (l.column + 1) l.header) ≡ position_from (bytes_eq (get_or l.header l.column [])) l.at (drop l.at l.header)
