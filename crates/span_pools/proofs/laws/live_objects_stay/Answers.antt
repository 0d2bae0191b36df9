use Rattle.span_pools.proofs.Lives.{stays}
use Rattle.span_pools.proofs.laws.live_objects_stay.Goals as goal

pub returns : goal.returns
returns c = λ l before after call reply p i legal leaves live. stays l p i before call reply after live leaves legal
