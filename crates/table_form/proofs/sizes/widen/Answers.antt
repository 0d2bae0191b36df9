use Rattle.std.proofs.Common.{◌≡◌, ◌∙◌, ap, arith}
use Rattle.csv.specs.Records.{fields_of}
use Rattle.table_form.specs.Aligned.{characters, shown}
use Rattle.table_form.proofs.Widths.{size_at, widens-end, widens-init, widens-next}
use Rattle.table_form.proofs.sizes.widen.Goals as goal

pub columns-init : goal.columns-init
columns-init c = widens-init c.args.sizes.now.items (fields_of c.args.row.now)

pub columns-preserved : goal.columns-preserved
columns-preserved c =
    let size : c.characters-size.result ≡ size_at (fields_of c.args.row.now) c.columns.at =
    c.characters-size.ensures ∙ ap characters (c.as_bytes.ensures.value ∙ c.in_ok-put_cell.ensures ∙ ap shown c.field_at.ensures) in
    widens-next c.args.sizes.now.items c.columns.sizes.items c.raise.new.sizes.items (fields_of c.args.row.now) c.columns.at c.characters-size.result size
    (omega (arith, c.columns-test.true, c.len-at-end.ensures)) c.raise.ensures c.columns.invariant

pub raise-requires : goal.raise-requires
raise-requires c = omega (arith, c.columns-test.true, c.len-at-end.ensures, c.columns.invariant.count)

pub returns : goal.returns
returns c = widens-end c.args.sizes.now.items c.columns.sizes.items (fields_of c.args.row.now) c.columns.at (omega (arith, c.columns-test.false, c.len-at-end.ensures)) c.columns.invariant
