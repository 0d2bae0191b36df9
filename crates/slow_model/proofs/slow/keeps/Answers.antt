use Rattle.std.proofs.Common.{◌≡◌, ◌∙◌, ℕ, Bool, true, false, not, ap, refl, is_none, is_some, Option, Some, None}
use Rattle.par_model.specs.Keep.{is_kept}
use Rattle.slow_model.proofs.slow.keeps.Goals as goal

said : (o : Option ℕ) (none : Bool) → is_some o ≡ not none → none ≡ is_none o
said None true e = refl
said None false e = cc
said (Some place) true e = cc
said (Some place) false e = refl

pub returns : goal.returns
unfolding is_kept
returns c = said c.deciding.result c.is_none.result c.is_none.ensures ∙ ap is_none c.deciding.ensures.place
