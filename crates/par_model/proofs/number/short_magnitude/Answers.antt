use Rattle.std.proofs.Common.{◌+◌, ◌-◌, arith, length}
use Rattle.par_model.proofs.Runs.{below, pow-some}
use Rattle.par_model.proofs.number.short_magnitude.Goals as goal

pub more_short-requires-clause-small : goal.more_short-requires-clause-small
more_short-requires-clause-small c = pow-some (18 - length c.args.digits.now)

pub returns-clause-within : goal.returns-clause-within
returns-clause-within c = below (0 + length c.args.digits.now) c.more_short.result (omega (arith, c.if-digits-gt-SHORT.false)) (c.more_short.ensures.within 0 (omega arith))
