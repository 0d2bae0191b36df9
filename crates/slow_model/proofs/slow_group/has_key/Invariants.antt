use Rattle.std.proofs.Common.{◌≡◌, bytes_eq, drop, map}
use Rattle.par_model.specs.Key.{encoded, key_of}
use Rattle.par_model.specs.Record.{field_of}
use Rattle.slow_model.proofs.slow_group.has_key.Given as goal

-- the fields so far are off the key's front, so that the rest is to be that of the others
abbrev pub invariant-groups : goal.invariant-groups
invariant-groups l = bytes_eq (key_of l.plan l.row) l.key ≡ bytes_eq (encoded (map (field_of l.row) (drop l.at l.plan.groups))) l.rest
