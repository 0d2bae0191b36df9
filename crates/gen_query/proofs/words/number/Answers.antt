use Rattle.std.proofs.Common.{◌∙◌, arith, sym}
use Rattle.par_model.proofs.Magnitudes.{one-more}
use Rattle.gen_query.proofs.Numbers.{none_at_more}
use Rattle.gen_query.proofs.words.number.Goals as goal

pub returns-then-value-largest-clause-value : goal.returns-then-value-largest-clause-value
returns-then-value-largest-clause-value c =
    let more = none_at_more c.args.longest c.args.most c.as_bytes-digits.result.now c.digits.digit-index c.digits.value c.digits-test.true c.digits.invariant.value
    (omega (arith, c.if-value-largest.true, c.from-largest.ensures)) in
    sym (rw c.as_bytes-digits.ensures.value at more)

pub digits-preserved : goal.digits-preserved
digits-preserved c =
    let inv = c.digits.invariant in
    let more = one-more 0 c.as_bytes-digits.result.now c.digits.digit-index c.digits.value c.from.result c.digits-test.true
    (sym c.is_ascii_digit.ensures.value ∙ c.if-not-is_ascii_digit.false) c.from.ensures inv.digits inv.value in
    record { digits = more.0; value = more.1 }
