use Rattle.std.proofs.Common.{arith}
use Rattle.par_exchange.proofs.PlaceLaws.{agree_all}
use Rattle.par_exchange.proofs.places.are_of.Goals as goal

pub returns-clause-yes : goal.returns-clause-yes
returns-clause-yes g c = λ _. agree_all c.args.places.now c.args.marks.now (omega (arith, c.if-places-marks.false)) (λ k lt. c.loop-k.invariant k (omega (arith, lt, c.loop-k-test.false, c.loop-k.auto.k-end)))
