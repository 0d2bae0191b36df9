use Rattle.std.proofs.Common.{◌≤◌, ◌+◌, ◌-◌, ◌^◌, arith, get_or, length, refl}
use Rattle.par_model.proofs.Magnitudes.{one-more}
use Rattle.par_model.proofs.Runs.{pow-up, within-more}
use Rattle.par_model.proofs.ShortNumbers.{digit-unit}
use Rattle.par_model.proofs.number.more_short.Goals as goal

pub overflow_mul-value : goal.overflow_mul-value
overflow_mul-value c =
    let inv = c.digits.invariant in
    let within = inv.within (18 - length c.args.digits.now) c.requires.small in
    let up : 10 ^ ((18 - length c.args.digits.now) + c.digits.digit-index) ≤ 10 ^ 17 = pow-up ((18 - length c.args.digits.now) + c.digits.digit-index) 17 (omega (arith, c.digits-test.true, c.requires.few)) in
    omega (arith, within, up)

pub overflow_add-value : goal.overflow_add-value
overflow_add-value c =
    let inv = c.digits.invariant in
    let within = inv.within (18 - length c.args.digits.now) c.requires.small in
    let up : 10 ^ ((18 - length c.args.digits.now) + c.digits.digit-index) ≤ 10 ^ 17 = pow-up ((18 - length c.args.digits.now) + c.digits.digit-index) 17 (omega (arith, c.digits-test.true, c.requires.few)) in
    omega (arith, within, up, c.if-unit-gt9.false)

pub digits-preserved : goal.digits-preserved
digits-preserved c =
    let inv = c.digits.invariant in
    let digit = get_or c.args.digits.now c.digits.digit-index 0 in
    let unit = digit-unit digit c.from.result c.from-in-digits.result _ c.from.ensures c.from-in-digits.ensures (omega (arith, c.type_inv.digits c.digits.digit-index)) refl c.if-unit-gt9.false in
    let more = one-more c.args.before c.args.digits.now c.digits.digit-index c.digits.value _ c.digits-test.true unit.0 unit.1 inv.digits inv.value in
    record { digits = more.0; value = more.1; within = λ k lt. within-more k c.digits.digit-index c.digits.value _ (inv.within k lt) (omega (arith, c.if-unit-gt9.false)) }
