use Rattle.std.proofs.Common.{◌≡◌, ◌≤◌, Some, length, ap, arith}
use Rattle.std.proofs.lemmas.Result.{err_from_is_err_and}
use Rattle.csv_rows.specs.Records.{records_of}
use Rattle.table_query.proofs.Inputs.{Explains-parsing, explained, explained-reading, told}
use Rattle.table_query.specs.Ready.{AreRecordsOf}
use Rattle.table_query.proofs.input.read_rows.Goals as goal

pub returns-in_err-bytes-clause-why : goal.returns-in_err-bytes-clause-why
returns-in_err-bytes-clause-why g c =
    let p = err_from_is_err_and c.from_residual.result c.from_residual.ensures.1 in
    rw (p.1, p.2) (explained-reading c.args.plan.now.plan _ _ c.in_err-bytes.field-0.0 c.in_err-bytes.ensures.too_many)

pub returns-in_err-rows-clause-why : goal.returns-in_err-rows-clause-why
returns-in_err-rows-clause-why g c =
    let p = err_from_is_err_and c.from_residual-in_err-rows.result c.from_residual-in_err-rows.ensures.1 in
    let bytes = c.in_ok-bytes.bytes.items in
    let within : length bytes ≤ 67108864 = omega (arith, c.in_ok-bytes.ensures.within, c.as_slice.ensures.len, ap length c.as_slice.ensures.value) in
    let none = rw c.as_slice.ensures.value at c.in_err-rows.ensures.no_header in
    let many = rw c.as_slice.ensures.value at c.in_err-rows.ensures.too_many in
    rw (p.1, p.2) (explained (Some c.args.plan.now.plan) (g.S.Source.left c.args.source.now) bytes _ c.in_ok-bytes.ensures.whole (Explains-parsing c.args.plan.now.plan bytes c.in_err-rows.field-0.0 within none many))

pub returns-clause-records : goal.returns-clause-records
returns-clause-records g c =
    let bytes = c.in_ok-bytes.bytes.items in
    let within : length bytes ≤ 67108864 = omega (arith, c.in_ok-bytes.ensures.within, c.as_slice.ensures.len, ap length c.as_slice.ensures.value) in
    let records : c.in_ok-rows.field-0 ≡ records_of bytes = rw c.as_slice.ensures.value at c.in_ok-rows.ensures.records in
    told (g.S.Source.left c.args.source.now) bytes (AreRecordsOf c.in_ok-rows.field-0) c.in_ok-bytes.ensures.whole (record { are = records; within = within })
