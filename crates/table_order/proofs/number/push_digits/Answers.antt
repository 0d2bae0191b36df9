use Rattle.std.proofs.Common.{◌∙◌, ap, arith, get_or, take}
use Rattle.std.proofs.lemmas.List.{take_more}
use Rattle.std.specs.Str.Parse.{digits_value_after}
use Rattle.table_order.proofs.Values.{digit-at, value-push}
use Rattle.table_order.proofs.number.push_digits.Goals as goal

pub loop-digit-preserved : goal.loop-digit-preserved
loop-digit-preserved c all is =
    let digits = c.args.digits.now in
    let i = c.loop-digit.digit-index in
    let digit = digit-at digits i c.requires (omega (arith, c.loop-digit-test.true)) in
    let more = ap (digits_value_after 10 all) (take_more digits i 0 (omega (arith, c.loop-digit-test.true))) ∙ value-push all (take i digits) (get_or digits i 0) in
    let so_far = c.loop-digit.invariant all is in
    omega (arith, more, so_far, digit.low, digit.high, digit.value, c.saturating_mul.ensures, c.saturating_add-size.ensures, c.from.ensures)
