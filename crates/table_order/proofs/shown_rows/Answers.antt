use Rattle.std.proofs.Common.{◌∙◌}
use Rattle.table_order.proofs.Tables.{header-first, header-rows}
use Rattle.table_order.proofs.shown_rows.Goals as goal

pub returns : goal.returns
returns c header rows is =
    let both = header-first c.as_slice.result.now c.in_ok-lines.lines.items c.in-Some.rows.now c.in-Some.header.now header rows c.in-Some.ensures.cases.0 c.as_slice.ensures.value (c.in_ok-lines.ensures _ is) in
    header-rows c.args.text.now c.in_ok-out.out.items c.put_rows.new.out.items header rows c.args.shown (c.in_ok-out.ensures.items ∙ both.0) (c.in_ok-put_rows.ensures rows both.1)
