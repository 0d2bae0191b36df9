use Rattle.std.proofs.Common.{◌∙◌, ap, refl, subst, sym}
use Rattle.table_order.specs.Shown.{AreOrdered, first_of}
use Rattle.table_order.proofs.Tables.{on-ok-more, shown-lines}
use Rattle.table_order.proofs.put_rows.Goals as goal

pub returns-in-None : goal.returns-in-None
returns-in-None c = on-ok-more c.put_lines.result c.put_lines.ensures (λ put rows is. record {
  ordered = rows;
  are = subst (λ order. AreOrdered order rows rows) (sym c.in-None.is) refl;
  is = shown-lines c.args.shown.limit c.args.lines.now c.first.result.now rows c.args.out.now.items c.put_lines.new.out.items is c.first.ensures put;
})

pub returns-in_ok-rows-in-Some : goal.returns-in_ok-rows-in-Some
returns-in_ok-rows-in-Some c = on-ok-more c.put_lines-in-Some.result c.put_lines-in-Some.ensures (λ put rows is.
    let text = c.in_ok-rows-in-Some.ensures rows is in
    record {
      ordered = text.ordered;
      are = subst (λ order. AreOrdered order rows text.ordered) (sym c.in-Some.is) text.are;
      is = shown-lines c.args.shown.limit c.in_ok-rows-in-Some.rows.items c.first-in-Some.result.now text.ordered c.args.out.now.items c.put_lines-in-Some.new.out.items text.is
          (c.first-in-Some.ensures ∙ ap (first_of c.args.shown.limit) c.as_slice.ensures.value) put;
    })
