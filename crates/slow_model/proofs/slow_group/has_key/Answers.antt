use Rattle.std.proofs.Common.{◌≡◌, ◌<◌, ◌≤◌, ◌+◌, ◌++◌, ◌∙◌, bytes_eq, drop, get_or, length, map, sym, ap}
use Rattle.slow_model.proofs.KeyFields.{bytes_eq-behind, bytes_eq-empty, bytes_eq-other, encoded_at, encoded_end}
use Rattle.par_model.specs.Key.{encoded, encoded_field}
use Rattle.par_model.specs.Record.{field_of}
use Rattle.slow_model.proofs.slow_group.has_key.Goals as goal

pub returns-in-None : goal.returns-in-None
returns-in-None c =
    let row = c.args.row.now in
    let groups = c.args.plan.now.groups in
    let within : c.groups.at < length groups = rw (← c.group_columns-groups.ensures.columns) c.groups-test.true in
    let field : c.field.result.now ≡ field_of row (get_or groups c.groups.at 0) = rw (← c.group_columns-groups.ensures.columns) c.field.ensures in
    let other = rw field at c.in-None.ensures in
    sym (c.groups.invariant ∙ ap (λ k. bytes_eq k c.groups.rest.now) (encoded_at (field_of row) groups c.groups.at 0 within)
    ∙ bytes_eq-other (encoded_field (field_of row (get_or groups c.groups.at 0))) (encoded (map (field_of row) (drop (c.groups.at + 1) groups))) c.groups.rest.now other)

pub field-requires : goal.field-requires
field-requires c =
    let within : c.groups.at < length c.args.plan.now.groups = rw (← c.group_columns-groups.ensures.columns) c.groups-test.true in
    rw c.group_columns-groups.ensures.columns (c.requires.groups c.groups.at 0 within)

pub groups-preserved : goal.groups-preserved
groups-preserved c =
    let row = c.args.row.now in
    let groups = c.args.plan.now.groups in
    let within : c.groups.at < length groups = rw (← c.group_columns-groups.ensures.columns) c.groups-test.true in
    let field : c.field.result.now ≡ field_of row (get_or groups c.groups.at 0) = rw (← c.group_columns-groups.ensures.columns) c.field.ensures in
    let begins = rw field at c.in-Some.ensures in
    let others = encoded (map (field_of row) (drop (c.groups.at + 1) groups)) in
    c.groups.invariant ∙ ap (λ k. bytes_eq k c.groups.rest.now) (encoded_at (field_of row) groups c.groups.at 0 within)
    ∙ ap (bytes_eq (encoded_field (field_of row (get_or groups c.groups.at 0)) ++ others)) begins
    ∙ bytes_eq-behind (encoded_field (field_of row (get_or groups c.groups.at 0))) others c.in-Some.after.now

pub returns : goal.returns
returns c =
    let groups = c.args.plan.now.groups in
    let past : length groups ≤ c.groups.at = rw (← c.group_columns-groups.ensures.columns) c.groups-test.false in
    c.is_empty.ensures ∙ bytes_eq-empty c.groups.rest.now
    ∙ sym (c.groups.invariant ∙ ap (λ k. bytes_eq k c.groups.rest.now) (encoded_end (field_of c.args.row.now) groups c.groups.at past))
