-- The fields of a record, and of one that gets a field more.
use Rattle.std.proofs.Common.{◌≡◌, ◌<◌, ◌+◌, ◌∙◌, ◌∷◌, ◌++◌, [], ℕ, zero, suc, List, None, ap, get_or, length, map, refl, sym, take}
use Rattle.std.proofs.lemmas.List.{map-append, take_more}
use Rattle.csv.specs.Records.{field_at}

-- a field that is not there has no bytes
pub field-past : (fields : List (List ℕ)) (at : ℕ) → field_at fields at ≡ None → get_or fields at [] ≡ []
unfolding field_at
field-past [] at none = refl
field-past (field ∷ fields) zero none = cc
field-past (field ∷ fields) (suc at) none = field-past fields at none

-- a field was put behind no part of one
pub field-put : (new old : List (List ℕ)) (partial text field : List ℕ) → new ≡ old ++ ((partial ++ text) ∷ []) → partial ≡ [] → text ≡ field → new ≡ old ++ field ∷ []
field-put new old partial text field is none same = is ∙ ap (λ (p : List ℕ). old ++ ((p ++ text) ∷ [])) none ∙ ap (λ (t : List ℕ). old ++ t ∷ []) same

-- one field more of those that are made of others
pub made-more : (f : List ℕ → List ℕ) (new old fields : List (List ℕ)) (at : ℕ) → at < length fields → new ≡ old ++ f (get_or fields at []) ∷ [] → old ≡ map f (take at fields) → new ≡ map f (take (at + 1) fields)
made-more f new old fields at lt is so_far =
    is ∙ ap (λ (o : List (List ℕ)). o ++ f (get_or fields at []) ∷ []) so_far ∙ sym (map-append f (take at fields) (get_or fields at [] ∷ [])) ∙ ap (map f) (sym (take_more fields at [] lt))
