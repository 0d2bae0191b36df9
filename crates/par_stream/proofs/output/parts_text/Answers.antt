use Rattle.std.proofs.Common.{arith}
use Rattle.std.proofs.lemmas.Result.{IfOk-weaker}
use Rattle.par_stream.proofs.output.parts_text.Goals as goal

pub table_of_parts-requires-clause-columns : goal.table_of_parts-requires-clause-columns
table_of_parts-requires-clause-columns g c κs within = c.requires.rows.3.0

pub table_of_parts-requires-clause-rows : goal.table_of_parts-requires-clause-rows
table_of_parts-requires-clause-rows g c κs within =
    let r = c.requires.rows in
    (r.0, r.1, r.2, c.in_ok-maps.ensures c.args.bound.now r.0 r.1 r.3.1 (omega (arith, r.2)))

pub returns : goal.returns
returns g c =
    IfOk-weaker c.table_of_parts.result _ _ (λ pieces answers header width rows is few has. answers header width rows is few (c.in_ok-maps.ensures c.args.bound.now width rows has.1 (omega (arith, few)))) c.table_of_parts.ensures
