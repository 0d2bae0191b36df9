use Rattle.std.proofs.Common.{◌<◌, ◌≤◌, length, ap, arith}
use Rattle.std.proofs.lemmas.Bool.Decides.{nat_tests}
use Rattle.slow_model.proofs.KeyFields.{length-encoded_at, length-encoded_end}
use Rattle.par_model.specs.Record.{field_of}
use Rattle.slow_model.proofs.slow.has_long_key.Goals.{then-room-lt4-via-then-room-lt4, then-room-lt4-via-else-room-lt4+then-room-length}
use Rattle.slow_model.proofs.slow.has_long_key.Goals as goal

pub groups-init : goal.groups-init
groups-init c = omega arith

pub field-length-requires : goal.field-length-requires
field-length-requires c =
    let within : c.groups.at < length c.args.plan.now.groups = rw (← c.group_columns-groups.ensures.columns) c.groups-test.true in
    rw c.group_columns-groups.ensures.columns (c.requires.groups c.groups.at 0 within)

pub returns-then-room-lt4 : goal.returns-then-room-lt4
returns-then-room-lt4 c =
    let within : c.groups.at < length c.args.plan.now.groups = rw (← c.group_columns-groups.ensures.columns) c.groups-test.true in
    let next = length-encoded_at (field_of c.args.row.now) c.args.plan.now.groups c.groups.at 0 within in
    let size = ap length (rw c.group_columns-groups.ensures.columns at c.field-length.ensures) in
    elim c.then-room-lt4.branch [
      | then-room-lt4-via-then-room-lt4 w ↦ grind (arith, nat_tests, next, size, c.groups.invariant, w.if-room-lt4.true)
      | then-room-lt4-via-else-room-lt4+then-room-length w ↦ grind (arith, nat_tests, next, size, c.groups.invariant, w.if-room-length.true)
    ]

pub groups-preserved : goal.groups-preserved
groups-preserved c =
    let within : c.groups.at < length c.args.plan.now.groups = rw (← c.group_columns-groups.ensures.columns) c.groups-test.true in
    let next = length-encoded_at (field_of c.args.row.now) c.args.plan.now.groups c.groups.at 0 within in
    omega (arith, next, c.groups.invariant, ap length (rw c.group_columns-groups.ensures.columns at c.field-length.ensures))

pub returns : goal.returns
returns c =
    let past : length c.args.plan.now.groups ≤ c.groups.at = rw (← c.group_columns-groups.ensures.columns) c.groups-test.false in
    let end = length-encoded_end (field_of c.args.row.now) c.args.plan.now.groups c.groups.at past in
    grind (arith, nat_tests, end, c.groups.invariant)
