use Rattle.std.proofs.Common.{arith}
use Rattle.par_model.proofs.Runs.{pow-some, pow-up}
use Rattle.result_text.proofs.decimal.power_of_ten.Goals as goal

pub overflow_mul-power : goal.overflow_mul-power
overflow_mul-power c =
    let up = pow-up c.loop-step._step 22 (omega (arith, c.loop-step-test.true, c.requires)) in
    record { fits = omega (arith, c.loop-step.invariant, up) }

pub returns-clause-within : goal.returns-clause-within
returns-clause-within c =
    let up = pow-up c.loop-step._step 22 (omega (arith, c.loop-step.auto._step-end, c.requires)) in
    omega (arith, c.loop-step.invariant, up)

pub returns-clause-some : goal.returns-clause-some
returns-clause-some c = omega (arith, c.loop-step.invariant, pow-some c.loop-step._step)
