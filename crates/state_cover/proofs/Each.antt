-- Each stretch of a cover is one.
use Rattle.std.proofs.Common.{◌≡◌, ◌++◌, ℕ, Bool, false, true, List, [], ◌∷◌, All, Option, Some, cond, subst, sym}
use Rattle.std.proofs.lemmas.List.Elements.{All-append, All-cons, All-nil}
use Rattle.state_head.specs.Cover.{AreStretches, IsStretch}
use Rattle.state_head.specs.declared.cover.Place.{Place}
use Rattle.state_head.specs.declared.cover.Stretch.{Stretch}

pub cover_each : (sources : ℕ) (before : Option Place) (cover : List Stretch) → AreStretches sources before cover → All (IsStretch sources) cover
cover_each sources before [] are = All-nil (IsStretch sources)
cover_each sources before (s ∷ more) are = All-cons (IsStretch sources) s more are.0.is_stretch (cover_each sources (Some s.place) more are.1)

-- so is each of two covers, one put behind the other if there was memory
pub both_each : (sources : ℕ) (put : Bool) (a b both : List Stretch) → both ≡ cond put (a ++ b) a → All (IsStretch sources) a → All (IsStretch sources) b → All (IsStretch sources) both
both_each sources true a b both e first second = subst (λ (ss : List Stretch). All (IsStretch sources) ss) (sym e) (All-append (IsStretch sources) a b first second)
both_each sources false a b both e first second = subst (λ (ss : List Stretch). All (IsStretch sources) ss) (sym e) first
