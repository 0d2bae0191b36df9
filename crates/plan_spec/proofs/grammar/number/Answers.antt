use Rattle.std.proofs.Common.{◌∙◌, sym}
use Rattle.par_model.proofs.Magnitudes.{one-more}
use Rattle.plan_spec.proofs.Numbers.{none-at-more, none-at-other}
use Rattle.plan_spec.proofs.grammar.number.Goals.{then-not-is_ascii_digit-via-then-not-is_ascii_digit, then-not-is_ascii_digit-via-else-not-is_ascii_digit+then-value-gt6553}
use Rattle.plan_spec.proofs.grammar.number.Goals as goal

pub returns-then-not-is_ascii_digit : goal.returns-then-not-is_ascii_digit
returns-then-not-is_ascii_digit c =
    elim c.then-not-is_ascii_digit.branch [
      | then-not-is_ascii_digit-via-then-not-is_ascii_digit w ↦
          sym (rw c.as_bytes-digits.ensures.value at (none-at-other c.args.most c.as_bytes-digits.result.now c.digits.digit-index c.digits-test.true (sym c.is_ascii_digit.ensures.value ∙ w.if-not-is_ascii_digit.true)))
      | then-not-is_ascii_digit-via-else-not-is_ascii_digit+then-value-gt6553 w ↦
          sym (rw c.as_bytes-digits.ensures.value at (none-at-more c.args.most c.as_bytes-digits.result.now c.digits.digit-index c.digits.value c.requires c.digits-test.true c.digits.invariant.value w.if-value-gt6553.true))
    ]

pub digits-preserved : goal.digits-preserved
digits-preserved c =
    let inv = c.digits.invariant in
    let more = one-more 0 c.as_bytes-digits.result.now c.digits.digit-index c.digits.value c.from.result c.digits-test.true
    (sym c.is_ascii_digit.ensures.value ∙ c.if-not-is_ascii_digit.false) c.from.ensures inv.digits inv.value in
    record { digits = more.0; value = more.1 }
