use Rattle.page_cache.proofs.Moments.{never_more}
use Rattle.page_cache.proofs.laws.never_more.Goals as goal

pub returns : goal.returns
returns c = never_more
