use Rattle.std.proofs.Common.{◌∙◌, List, ◌∷◌, [], ◌++◌, ap}
use Rattle.std.specs.Prelude.{Option, None}
use Rattle.par_exchange.proofs.PlaceLaws.{one_more}
use Rattle.par_exchange.proofs.places.empty_places.Goals as goal

pub loop-preserved : goal.loop-preserved
loop-preserved g c = c.in_ok-push.ensures.items ∙ (ap (λ (l : List (Option _)). l ++ None ∷ []) c.loop.invariant ∙ one_more c.loop.counter None)
