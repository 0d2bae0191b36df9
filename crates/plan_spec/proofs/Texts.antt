-- Texts after a relation, with double quotes and without.
use Rattle.std.proofs.Common.{◌≡◌, ◌∷◌, ◌++◌, [], None, Some, codes, refl}
use Rattle.plan_spec.specs.Grammar.{text_in}

-- two filters in one text are none
two_filters : text_in (codes "1 and g=a") ≡ None
two_filters = refl

-- nor is a relation with a space around it a text, but for one between double quotes
spaced : text_in (codes "a = b") ≡ None
spaced = refl

quoted : text_in (34 ∷ codes "a = b" ++ 34 ∷ []) ≡ Some (codes "a = b")
quoted = refl

-- without a space it is one
link : text_in (codes "http://x?a=1") ≡ Some (codes "http://x?a=1")
link = refl

spaces : text_in (codes "New York") ≡ Some (codes "New York")
spaces = refl
