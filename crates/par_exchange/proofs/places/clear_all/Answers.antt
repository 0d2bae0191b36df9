use Rattle.std.proofs.Common.{◌∙◌, List, ap, set, arith}
use Rattle.std.specs.Prelude.{Option, None}
use Rattle.par_exchange.proofs.PlaceLaws.{mixed_all, mixed_more}
use Rattle.par_exchange.proofs.places.clear_all.Goals as goal

pub loop-place-preserved : goal.loop-place-preserved
loop-place-preserved g c = ap (λ (ps : List (Option g.row.T.Denot)). set ps c.loop-place.place-index None) c.loop-place.invariant ∙ mixed_more c.loop-place.place-index c.args.places.now c.loop-place-test.true

pub returns : goal.returns
returns g c = c.loop-place.invariant ∙ mixed_all c.loop-place.place-index c.args.places.now (omega (arith, c.loop-place-test.false))
