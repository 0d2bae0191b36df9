use Rattle.std.proofs.Common.{◌∙◌, Bool, true, List, ◌∷◌, [], ◌++◌, ap}
use Rattle.par_exchange.proofs.PlaceLaws.{one_more}
use Rattle.par_exchange.proofs.places.all_marked.Goals as goal

pub loop-preserved : goal.loop-preserved
loop-preserved c = c.in_ok-push.ensures.items ∙ (ap (λ (l : List Bool). l ++ true ∷ []) c.loop.invariant ∙ one_more c.loop.counter true)
