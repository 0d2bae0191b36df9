use Rattle.std.proofs.Common.{◌≡◌, arith, get_or, true}
use Rattle.std.specs.Char.{is_ascii_digit}
use Rattle.shown_words.proofs.Digits.{digit-from, digits-more, room, small-more, value-more}
use Rattle.shown_words.proofs.asked.limit_of.Goals as goal

pub overflow_mul-value : goal.overflow_mul-value
overflow_mul-value c =
    let room = room c.digits.value c.digits.digit-index c.digits.invariant.small (omega (arith, c.digits-test.true, c.if-digits-gt18.false)) in
    omega (arith, room)

pub overflow_add-value : goal.overflow_add-value
overflow_add-value c =
    let room = room c.digits.value c.digits.digit-index c.digits.invariant.small (omega (arith, c.digits-test.true, c.if-digits-gt18.false)) in
    let digit : is_ascii_digit (get_or c.args.digits.now c.digits.digit-index 0) ≡ true = cc in
    let d = digit-from (get_or c.args.digits.now c.digits.digit-index 0) digit in
    omega (arith, room, d.high, c.from.ensures)

pub digits-preserved : goal.digits-preserved
digits-preserved c =
    let digits = c.args.digits.now in
    let i = c.digits.digit-index in
    let digit : is_ascii_digit (get_or digits i 0) ≡ true = cc in
    record {
      value = value-more digits i c.digits.value c.from.result c.digits-test.true digit c.from.ensures c.digits.invariant.value;
      digits = digits-more digits i c.digits-test.true digit c.digits.invariant.digits;
      small = small-more (get_or digits i 0) i c.digits.value c.from.result digit c.from.ensures c.digits.invariant.small;
    }
