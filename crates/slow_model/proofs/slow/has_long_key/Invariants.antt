use Rattle.std.proofs.Common.{◌≡◌, ◌+◌, length, drop, map}
use Rattle.par_model.specs.Key.{encoded, key_of}
use Rattle.par_model.specs.Record.{field_of}
use Rattle.slow_model.proofs.slow.has_long_key.Given as goal

-- what the fields so far have left of the room, and what the others take
abbrev pub invariant-groups : goal.invariant-groups
invariant-groups l = length (key_of l.plan l.row) + l.room ≡ 248 + length (encoded (map (field_of l.row) (drop l.at l.plan.groups)))
