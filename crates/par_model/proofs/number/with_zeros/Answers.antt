use Rattle.std.proofs.Common.{◌≡◌, ◌<◌, ◌^◌, ◌+◌, true, false, arith, refl, sym, nat_le}
use Rattle.std.proofs.lemmas.Bool.Decides.{nat_tests}
use Rattle.std.specs.Prelude.{replicate}
use Rattle.std.specs.Str.Parse.{digits_value_after}
use Rattle.par_model.proofs.Runs.{after-zero, zeros-up}
use Rattle.par_model.proofs.number.with_zeros.Goals as goal

pub returns-then-value-clause-value : goal.returns-then-value-clause-value
returns-then-value-clause-value c =
    let inv = c.loop-zero.invariant in
    let next = after-zero c.args.before c.loop-zero._zero in
    let up = zeros-up c.args.before (c.loop-zero._zero + 1) c.args.count (omega (arith, c.loop-zero-test.true)) in
    let large : 2 ^ 63 < digits_value_after 10 c.args.before (replicate c.args.count 48) = omega (arith, inv.value, next, up, c.if-value.true) in
    let none : nat_le (digits_value_after 10 c.args.before (replicate c.args.count 48)) (2 ^ 63) ≡ false = grind (arith, nat_tests, large) in
    rw none refl

pub loop-zero-preserved : goal.loop-zero-preserved
loop-zero-preserved c =
    let inv = c.loop-zero.invariant in
    let next = after-zero c.args.before c.loop-zero._zero in
    record { value = omega (arith, inv.value, next); within = omega (arith, c.if-value.false) }

pub returns-clause-value : goal.returns-clause-value
returns-clause-value c =
    let inv = c.loop-zero.invariant in
    let end : c.loop-zero._zero ≡ c.args.count = omega (arith, c.loop-zero-test.false, c.loop-zero.auto._zero-end) in
    let value : c.loop-zero.value ≡ digits_value_after 10 c.args.before (replicate c.args.count 48) = rw end at inv.value in
    let within : nat_le c.loop-zero.value (2 ^ 63) ≡ true = grind (arith, nat_tests, inv.within) in
    rw (sym value, within) refl
