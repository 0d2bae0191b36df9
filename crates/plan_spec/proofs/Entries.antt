-- The places of a column, by the first entry for it.
use Rattle.std.proofs.Common.{◌≡◌, ℕ, List, [], ◌∷◌, map, refl, true, inl, inr}
use Rattle.std.proofs.lemmas.Bool.{cases_Bool}
use Rattle.std.specs.Prelude.{bytes_eq, find}
use Rattle.std.specs.Option.{option_map_or}
use Rattle.plan_spec.specs.Given.{entry_of}
use Rattle.plan_spec.specs.Grammar.{places_of}
use Rattle.plan_spec.specs.declared.grammar.PlacesOf.{PlacesOf}

pub found-places : (xs : List PlacesOf) (name : List ℕ) → option_map_or (λ entry. entry.places) (find (λ entry. option_map_or (bytes_eq name) (entry_of entry).0 true) xs) 0 ≡ places_of (map entry_of xs) name
found-places [] name = refl
found-places (x ∷ xs) name = elim (cases_Bool (option_map_or (bytes_eq name) (entry_of x).0 true)) [
  | inl e ↦ rw e refl
  | inr e ↦ rw e (found-places xs name)
]
