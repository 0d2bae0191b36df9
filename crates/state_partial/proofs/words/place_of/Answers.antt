use Rattle.std.proofs.Common.{◌∙◌, arith, get_or, sym}
use Rattle.par_model.proofs.Magnitudes.{one-more}
use Rattle.state_partial.proofs.Numbers.{digit_low, none_at_more, none_at_other}
use Rattle.state_partial.proofs.words.place_of.Goals.{then-not-is_ascii_digit-via-then-not-is_ascii_digit, then-not-is_ascii_digit-via-else-not-is_ascii_digit+then-value-ge-FULL_PLACE}
use Rattle.state_partial.proofs.words.place_of.Goals as goal

pub returns-then-not-is_ascii_digit : goal.returns-then-not-is_ascii_digit
returns-then-not-is_ascii_digit c =
    elim c.then-not-is_ascii_digit.branch [
      | then-not-is_ascii_digit-via-then-not-is_ascii_digit w ↦
          sym (rw c.as_bytes-digits.ensures.value at (none_at_other c.as_bytes-digits.result.now c.digits.digit-index c.digits-test.true (sym c.is_ascii_digit.ensures.value ∙ w.if-not-is_ascii_digit.true)))
      | then-not-is_ascii_digit-via-else-not-is_ascii_digit+then-value-ge-FULL_PLACE w ↦
          sym (rw c.as_bytes-digits.ensures.value at (none_at_more c.as_bytes-digits.result.now c.digits.digit-index c.digits.value c.digits-test.true c.digits.invariant.value w.if-value-ge-FULL_PLACE.true))
    ]

pub digits-preserved : goal.digits-preserved
digits-preserved c =
    let inv = c.digits.invariant in
    let more = one-more 0 c.as_bytes-digits.result.now c.digits.digit-index c.digits.value c.from.result c.digits-test.true
    (sym c.is_ascii_digit.ensures.value ∙ c.if-not-is_ascii_digit.false) c.from.ensures inv.digits inv.value in
    record { digits = more.0; value = more.1; low = omega (arith, digit_low (get_or c.as_bytes-digits.result.now c.digits.digit-index 0) (sym c.is_ascii_digit.ensures.value ∙ c.if-not-is_ascii_digit.false)) }
