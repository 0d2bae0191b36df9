use Rattle.dshash_parts.proofs.Callers.{callers_make_all}
use Rattle.dshash_parts.proofs.laws.callers_make_all.Goals as goal

pub returns : goal.returns
returns g c = λ count key es others. callers_make_all count key es others
