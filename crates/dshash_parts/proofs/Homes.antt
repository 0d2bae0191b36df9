-- The area that a table was made with.
use Rattle.std.proofs.Common.{◌≡◌, Option, Some, None, Result, Ok, Err, IfOk, IfSome, sym, subst}
use Rattle.dsa_area.specs.declared.area.Area.{Area}
use Rattle.dshash_parts.specs.Tables.{IsHome}
use Rattle.dshash_parts.specs.declared.table.Dshash.{Dshash}

if_none : {A : Type 0} (o : Option A) (P : A → Type 0) → o ≡ None → IfSome o P
if_none {A} o P e = subst (λ (z : Option A). IfSome z P) (sym e) tt

-- what holds of a value holds of an option that is this value
pub if_some : {A : Type 0} (o : Option A) (x : A) (P : A → Type 0) → o ≡ Some x → P x → IfSome o P
if_some {A} o x P e p = subst (λ (z : Option A). IfSome z P) (sym e) p

-- a table that was made with no area is at home in each
pub any_home : {O S C R P E : Type 0} (r : Result (Dshash O S C R × P) E) → IfOk r (λ t. t.0.home ≡ None) → IfOk r (λ t. (a : Area) → IsHome a t.0)
any_home (Ok t) none = λ a. if_none t.0.home (λ h. h.value ≡ a) none
any_home (Err e) none = tt
