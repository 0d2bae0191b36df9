use Rattle.std.proofs.Common.{◌≡◌, ◌<◌, ◌∙◌, arith, length, sym}
use Rattle.std.proofs.lemmas.Bool.{eqb-true}
use Rattle.std.proofs.lemmas.Bool.Decides.{nat_tests}
use Rattle.csv.specs.Records.{fields_of}
use Rattle.table_form.proofs.Widths.{widen-end, widen-init, widen-more}
use Rattle.table_form.proofs.sizes.widen_all.Goals as goal

pub rows-init : goal.rows-init
rows-init c = widen-init c.args.text.now c.args.sizes.now.items

pub rows-preserved : goal.rows-preserved
rows-preserved c =
    let some : 0 < length c.rows.left.now = grind (arith, nat_tests, c.is_empty.ensures, c.rows-test.true) in
    widen-more c.args.text.now c.rows.left.now c.in_ok-next.next.now c.args.sizes.now.items c.rows.sizes.items c.widen.new.sizes.items (fields_of c.read_row.new.row) some
    (λ row rest is. (c.in_ok-next.ensures.fields row rest is, c.in_ok-next.ensures.rest row rest is)) c.in_ok-widen.ensures c.rows.invariant

pub rows-smaller : goal.rows-smaller
rows-smaller c =
    let some : 0 < length c.rows.left.now = grind (arith, nat_tests, c.is_empty.ensures, c.rows-test.true) in
    c.in_ok-next.ensures.shorter some

pub returns : goal.returns
returns c rows is =
    let none : length c.rows.left.now ≡ 0 = eqb-true _ 0 (sym c.is_empty.ensures ∙ c.rows-test.false) in
    widen-end c.args.text.now c.rows.left.now c.args.sizes.now.items c.rows.sizes.items none c.rows.invariant rows is
