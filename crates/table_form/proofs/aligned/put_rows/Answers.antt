use Rattle.std.proofs.Common.{◌≡◌, ◌<◌, ◌∙◌, arith, length, sym}
use Rattle.std.proofs.lemmas.Bool.{eqb-true}
use Rattle.std.proofs.lemmas.Bool.Decides.{nat_tests}
use Rattle.csv.specs.Records.{fields_of}
use Rattle.table_form.specs.Aligned.{aligned_row}
use Rattle.table_form.proofs.Walks.{walk-end, walk-init, walk-more}
use Rattle.table_form.proofs.aligned.put_rows.Goals as goal

pub rows-init : goal.rows-init
rows-init c = walk-init (aligned_row c.args.keys c.args.sizes.now) c.args.text.now c.args.out.now.items

pub rows-preserved : goal.rows-preserved
rows-preserved c =
    let some : 0 < length c.rows.left.now = grind (arith, nat_tests, c.is_empty.ensures, c.rows-test.true) in
    walk-more (aligned_row c.args.keys c.args.sizes.now) c.args.text.now c.rows.left.now c.in_ok-next.next.now c.args.out.now.items c.rows.out.items c.put_row.new.out.items (fields_of c.read_row.new.row) some
    (λ row rest is. (c.in_ok-next.ensures.fields row rest is, c.in_ok-next.ensures.rest row rest is)) c.in_ok-put_row.ensures c.rows.invariant

pub rows-smaller : goal.rows-smaller
rows-smaller c =
    let some : 0 < length c.rows.left.now = grind (arith, nat_tests, c.is_empty.ensures, c.rows-test.true) in
    c.in_ok-next.ensures.shorter some

pub returns : goal.returns
returns c table is =
    let none : length c.rows.left.now ≡ 0 = eqb-true _ 0 (sym c.is_empty.ensures ∙ c.rows-test.false) in
    walk-end (aligned_row c.args.keys c.args.sizes.now) c.args.text.now c.rows.left.now c.args.out.now.items c.rows.out.items none c.rows.invariant table is
