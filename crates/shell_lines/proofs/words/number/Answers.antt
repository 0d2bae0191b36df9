use Rattle.std.proofs.Common.{◌∙◌, sym, arith}
use Rattle.shell_lines.proofs.Numbers.{none-at-large, none-at-other, one-more}
use Rattle.shell_lines.proofs.words.number.Goals as goal

pub returns-then-not-is_ascii_digit-clause-value : goal.returns-then-not-is_ascii_digit-clause-value
returns-then-not-is_ascii_digit-clause-value c =
    sym (none-at-other c.args.least c.args.most c.args.word.now c.digits.digit-index c.digits-test.true (sym c.is_ascii_digit.ensures.value ∙ c.if-not-is_ascii_digit.true))

pub returns-then-value-limit-clause-value : goal.returns-then-value-limit-clause-value
returns-then-value-limit-clause-value c =
    sym (none-at-large c.args.least c.args.most c.args.word.now c.digits.digit-index c.digits.value c.digits-test.true c.digits.invariant.value (omega (arith, c.from-limit.ensures, c.if-value-limit.true)))

pub digits-preserved : goal.digits-preserved
digits-preserved c =
    let inv = c.digits.invariant in
    let more = one-more c.args.word.now c.digits.digit-index c.digits.value c.from-unit.result c.digits-test.true
    (sym c.is_ascii_digit.ensures.value ∙ c.if-not-is_ascii_digit.false) c.from-unit.ensures inv.digits inv.value in
    record { digits = more.0; value = more.1 }
