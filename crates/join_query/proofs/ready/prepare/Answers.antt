use Rattle.std.proofs.Common.{◌≤◌, ap, arith, length}
use Rattle.std.proofs.lemmas.Result.{err_from_is_err_and}
use Rattle.join_query.specs.Words.{asked_by}
use Rattle.join_query.proofs.Outcomes.{explained}
use Rattle.join_query.proofs.ready.prepare.Goals as goal

pub returns-in_err-ready-clause-why : goal.returns-in_err-ready-clause-why
returns-in_err-ready-clause-why g c =
    let p = err_from_is_err_and c.from_residual-in_err-ready.result c.from_residual-in_err-ready.ensures.1 in
    let bytes = c.in_ok-bytes.bytes.items in
    let within : length bytes ≤ 67108864 = omega (arith, c.in_ok-bytes.ensures.within, c.as_slice.ensures.len, ap length c.as_slice.ensures.value) in
    let why = rw c.as_slice.ensures.value at c.in_err-ready.ensures.why in
    rw (p.1, p.2) (explained (asked_by c.args.asked.now) (g.S.Source.left c.args.source.now) bytes c.in_err-ready.field-0.0 c.in_ok-bytes.ensures.whole within why)
