use Rattle.std.proofs.Common.{Some}
use Rattle.std.proofs.lemmas.List.{take_rest}
use Rattle.std.proofs.lemmas.Result.{err_from_is_err_and}
use Rattle.csv_rows.specs.Records.{record_at}
use Rattle.par_model.specs.Named.{column_of}
use Rattle.join_query.specs.Outcome.{IsOfBytes, IsOfColumns, IsOfTables, left_of, right_of}
use Rattle.join_query.proofs.Outcomes.{explains_as, of_cut}
use Rattle.join_query.proofs.ready.ready_of.Goals as goal

pub returns-in_err-tables-clause-why : goal.returns-in_err-tables-clause-why
returns-in_err-tables-clause-why g c =
    let p = err_from_is_err_and c.from_residual.result c.from_residual.ensures.1 in
    let bytes = c.args.bytes.now in
    let name = c.args.asked.now.column.now in
    let place = c.in-Some.place in
    let why = rw (take_rest bytes) at (c.in_err-tables.ensures.why name) in
    rw (p.1, p.2) (explains_as (IsOfTables (left_of bytes place) (right_of bytes place) name) (IsOfBytes name bytes) (λ o is. (Some place, c.in-Some.ensures.first, is)) c.in_err-tables.field-0.0 why)

pub returns-in_err-left_column-clause-why : goal.returns-in_err-left_column-clause-why
returns-in_err-left_column-clause-why g c =
    let p = err_from_is_err_and c.from_residual-in_err-left_column.result c.from_residual-in_err-left_column.ensures.1 in
    let bytes = c.args.bytes.now in
    let name = c.args.asked.now.column.now in
    let t = c.in_ok-tables.tables in
    let are = rw (take_rest bytes) at c.in_ok-tables.ensures.tables in
    let Here = IsOfColumns t.left t.right name (column_of (record_at t.left 0) name) (column_of (record_at t.right 0) name) in
    rw (p.1, p.2) (explains_as Here (IsOfBytes name bytes) (λ o is. of_cut name bytes c.in-Some.place t o c.in-Some.ensures.first are is) c.in_err-left_column.field-0.0 c.in_err-left_column.ensures.why)
