use Rattle.page_cache.proofs.Moments.{always_paid}
use Rattle.page_cache.proofs.laws.always_paid.Goals as goal

pub returns : goal.returns
returns c = always_paid
