use Rattle.std.proofs.Common.{◌∙◌, sym}
use Rattle.par_model.proofs.Magnitudes.{none-at-more, none-at-other, one-more}
use Rattle.par_model.proofs.number.more_magnitude.Goals.{then-not-is_ascii_digit-via-then-not-is_ascii_digit, then-not-is_ascii_digit-via-else-not-is_ascii_digit+then-value}
use Rattle.par_model.proofs.number.more_magnitude.Goals as goal

pub returns-then-not-is_ascii_digit-clause-value : goal.returns-then-not-is_ascii_digit-clause-value
returns-then-not-is_ascii_digit-clause-value c =
    let inv = c.digits.invariant in
    elim c.then-not-is_ascii_digit.branch [
      | then-not-is_ascii_digit-via-then-not-is_ascii_digit w ↦
          sym (none-at-other c.args.before c.args.digits.now c.digits.digit-index c.digits-test.true (sym c.is_ascii_digit.ensures.value ∙ w.if-not-is_ascii_digit.true))
      | then-not-is_ascii_digit-via-else-not-is_ascii_digit+then-value w ↦
          sym (none-at-more c.args.before c.args.digits.now c.digits.digit-index c.digits.value c.digits-test.true inv.value w.if-value.true)
    ]

pub digits-preserved : goal.digits-preserved
digits-preserved c =
    let inv = c.digits.invariant in
    let more = one-more c.args.before c.args.digits.now c.digits.digit-index c.digits.value c.from.result c.digits-test.true
    (sym c.is_ascii_digit.ensures.value ∙ c.if-not-is_ascii_digit.false) c.from.ensures inv.digits inv.value in
    record { digits = more.0; value = more.1 }
